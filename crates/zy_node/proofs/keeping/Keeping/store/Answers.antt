use Rattle.std.proofs.Common.{◌∷◌, [], ◌∙◌, sym, subst}
use Rattle.std.proofs.lemmas.Result.{err_from_is_err_and}
use Rattle.zy_journal.specs.Journal.{IsAtEnd, IsPiece}
use Rattle.zy_node.specs.Events.{records}
use Rattle.zy_node.proofs.StoreLemmas.{nothing_stored}
use Rattle.zy_node.proofs.TakeLemmas.{refused_keeps, taken_keeps}
use Rattle.zy_node.proofs.keeping.Keeping.store.Goals as goal

pub returns-in_err-piece-clause-keeps : goal.returns-in_err-piece-clause-keeps
returns-in_err-piece-clause-keeps g c =
    let p = err_from_is_err_and c.from_residual.result c.from_residual.ensures.1 in
    rw (p.1, p.2) (nothing_stored g.D.Disk.contents g.D.Disk.may_leave g.D.Disk.moment g.D.Disk.left_since c.args.disk.now c.args.self.gate (records g.C.Core.rules (c.args.event ∷ []) c.args.self.host.core) (g.met.D.Disk.only_now c.args.disk.now) c.requires.end)

pub returns-in_err-keeping-clause-keeps : goal.returns-in_err-keeping-clause-keeps
returns-in_err-keeping-clause-keeps g c =
    let p = err_from_is_err_and c.from_residual-in_err-keeping.result c.from_residual-in_err-keeping.ensures.1 in
    rw (p.1, p.2) (nothing_stored g.D.Disk.contents g.D.Disk.may_leave g.D.Disk.moment g.D.Disk.left_since c.args.disk.now c.args.self.gate (records g.C.Core.rules (c.args.event ∷ []) c.args.self.host.core) (g.met.D.Disk.only_now c.args.disk.now) c.requires.end)

pub returns-then-refused-clause-keeps : goal.returns-then-refused-clause-keeps
returns-then-refused-clause-keeps g c =
    refused_keeps g.D.Disk.contents g.D.Disk.may_leave g.D.Disk.moment g.D.Disk.left_since g.C.Core.rules c.args.event c.args.self c.in_ok-keeping.field-0.keeping c.in_ok-keeping.field-0.refused c.args.disk.now
    (g.met.D.Disk.only_now c.args.disk.now) c.requires.end c.in_ok-keeping.ensures.keeping c.in_ok-keeping.ensures.refused c.if-refused.true

pub returns-clause-keeps : goal.returns-clause-keeps
returns-clause-keeps g c =
    taken_keeps g.D.Disk.contents g.D.Disk.may_leave g.D.Disk.moment g.D.Disk.left_since g.C.Core.rules c.args.event c.args.self c.in_ok-keeping.field-0.keeping c.in_ok-keeping.field-0.refused c.as_slice.result.now c.append.result c.args.disk.now c.append.new.disk
    c.in_ok-keeping.ensures.keeping c.in_ok-keeping.ensures.refused c.if-refused.false (c.as_slice.ensures.value ∙ c.in_ok-piece.ensures) c.append.ensures.keeps

pub append-requires-clause-fits : goal.append-requires-clause-fits
append-requires-clause-fits g c = subst IsPiece (sym (c.as_slice.ensures.value ∙ c.in_ok-piece.ensures)) (c.requires.fits (sym c.in_ok-keeping.ensures.refused ∙ c.if-refused.false))

pub append-requires-clause-end : goal.append-requires-clause-end
append-requires-clause-end g c = subst (λ u. IsAtEnd (g.D.Disk.contents c.args.disk.now) (g.D.Disk.may_leave c.args.disk.now) u.gate) (sym c.in_ok-keeping.ensures.keeping) c.requires.end
