use Rattle.zy_replica_state.proofs.ReadyLemmas.{ready_without_order}
use Rattle.zy_replica_state.proofs.state.Core.drop_order.Goals as goal

pub invariant_of-self : goal.invariant_of-self
invariant_of-self g c = rw c.drop_at.ensures (ready_without_order _ c.self.invariant c.args.place.0)
