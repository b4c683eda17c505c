use Rattle.std.proofs.Common.{◌≡◌, true, false, ◌∙◌, sym, subst}
use Rattle.zy_journal.specs.Journal.{IsAtEnd}
use Rattle.zy_node.specs.Keeping.{UnsentState}
use Rattle.zy_node.specs.Timing.{is_reached, moment_of}
use Rattle.zy_node.proofs.EventLemmas.{timer_fits}
use Rattle.zy_node.proofs.TakeLemmas.{due_keeps, not_due_keeps}
use Rattle.zy_node.proofs.keeping.Keeping.fire.Goals as goal

pub returns-then-is_due-clause-keeps : goal.returns-then-is_due-clause-keeps
returns-then-is_due-clause-keeps g c =
    due_keeps g.D.Disk.contents g.D.Disk.may_leave g.D.Disk.moment g.D.Disk.left_since g.C.Core.rules c.args.kind c.args.now c.args.self c.run_again.result c.store.result c.args.disk.now c.store.new.disk
    (subst (λ (u : UnsentState _). is_reached c.args.now (moment_of c.args.kind u.host.due) ≡ true) c.self.view_is (sym c.is_due.ensures ∙ c.if-is_due.true)) c.run_again.ensures c.store.ensures.keeps

pub returns-else-is_due-clause-keeps : goal.returns-else-is_due-clause-keeps
returns-else-is_due-clause-keeps g c =
    not_due_keeps g.D.Disk.contents g.D.Disk.may_leave g.D.Disk.moment g.D.Disk.left_since g.C.Core.rules c.args.kind c.args.now c.args.self c.args.disk.now (g.met.D.Disk.only_now c.args.disk.now) c.requires.end
    (subst (λ (u : UnsentState _). is_reached c.args.now (moment_of c.args.kind u.host.due) ≡ false) c.self.view_is (sym c.is_due.ensures ∙ c.if-is_due.false))

pub store-requires-clause-fits : goal.store-requires-clause-fits
store-requires-clause-fits g c = λ taken. timer_fits c.args.kind c.requires.stored

pub store-requires-clause-end : goal.store-requires-clause-end
store-requires-clause-end g c = subst (λ u. IsAtEnd (g.D.Disk.contents c.args.disk.now) (g.D.Disk.may_leave c.args.disk.now) u.gate) (sym c.run_again.ensures) c.requires.end
