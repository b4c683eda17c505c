use Rattle.zy_replica_state.proofs.ReadyLemmas.{ready_left}
use Rattle.zy_replica_state.proofs.state.Core.leave.Goals as goal

pub invariant_of-self : goal.invariant_of-self
invariant_of-self g c = rw c.leave.ensures (ready_left _ c.self.invariant c.args.view c.requires.range)
