use Rattle.zy_replica_state.proofs.ReadyLemmas.{ready_with_waiting}
use Rattle.zy_replica_state.proofs.state.Core.wait.Goals as goal

pub invariant_of-self : goal.invariant_of-self
invariant_of-self g c = rw c.wait.ensures (ready_with_waiting _ c.self.invariant (record { cert = c.args.cert; chosen = c.args.chosen }) c.requires.ready)
