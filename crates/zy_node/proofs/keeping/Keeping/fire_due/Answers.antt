use Rattle.std.proofs.lemmas.Result.{err_from_is_err_and}
use Rattle.zy_node.proofs.TakeLemmas.{both_due, first_due_fails}
use Rattle.zy_node.proofs.keeping.Keeping.fire_due.Goals as goal

pub returns-in_err-fire-clause-keeps : goal.returns-in_err-fire-clause-keeps
returns-in_err-fire-clause-keeps g c =
    let p = err_from_is_err_and c.from_residual.result c.from_residual.ensures.1 in
    rw (p.1, p.2) (first_due_fails g.D.Disk.contents g.D.Disk.may_leave g.D.Disk.moment g.D.Disk.left_since g.C.Core.rules c.args.now c.args.self.host c.args.self c.in_err-fire.field-0.0 c.args.disk.now c.fire.new.disk c.in_err-fire.ensures.keeps)

pub returns-clause-keeps : goal.returns-clause-keeps
returns-clause-keeps g c =
    both_due g.D.Disk.contents g.D.Disk.may_leave g.D.Disk.moment g.D.Disk.left_since g.C.Core.rules c.args.now c.args.self.host c.args.self c.in_ok-fire.field-0 c.fire-2.result c.args.disk.now c.fire.new.disk c.fire-2.new.disk
    c.in_ok-fire.ensures.keeps c.fire-2.ensures.keeps

pub fire-requires-2-clause-end : goal.fire-requires-2-clause-end
fire-requires-2-clause-end g c = c.in_ok-fire.ensures.keeps.2.end
