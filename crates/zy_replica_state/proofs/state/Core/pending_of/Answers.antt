use Rattle.std.proofs.Common.{sym, ◌∙◌}
use Rattle.zy_replica_state.specs.Ready.{IsPendingReady}
use Rattle.zy_replica_state.proofs.ReadyLemmas.{item_is}
use Rattle.zy_replica_state.proofs.state.Core.pending_of.Goals as goal

pub returns-in-Some-Some-clause-ready : goal.returns-in-Some-Some-clause-ready
returns-in-Some-Some-clause-ready g c x is =
    item_is IsPendingReady c.self.inside.pending.items c.args.client.0 c.in-Some-Some.field-0.now
    (rw (sym c.deref.ensures.value) (sym c.in-Some-Some.ensures.lookup.0))
    (rw (sym c.deref.ensures.value) c.in-Some-Some.ensures.lookup.1)
    c.self.invariant.pending x (c.in-Some-Some.field-0-is ∙ is)
