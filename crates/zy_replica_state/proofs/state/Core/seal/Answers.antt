use Rattle.zy_replica_state.proofs.ReadyLemmas.{ready_spent}
use Rattle.zy_replica_state.proofs.state.Core.seal.Goals as goal

pub invariant_of-self : goal.invariant_of-self
invariant_of-self g c = rw c.in-Ok.ensures.spent_one (ready_spent _ c.self.invariant)
