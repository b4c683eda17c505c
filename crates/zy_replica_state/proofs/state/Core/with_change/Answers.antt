use Rattle.zy_replica_state.proofs.ReadyLemmas.{ready_with_change}
use Rattle.zy_replica_state.proofs.state.Core.with_change.Goals as goal

pub invariant_of-self : goal.invariant_of-self
invariant_of-self g c = rw c.keep_change.ensures (ready_with_change _ c.self.invariant c.args.change)
