use Rattle.zy_replica_state.proofs.ReadyLemmas.{ready_pending}
use Rattle.zy_replica_state.proofs.state.Core.keep_pending.Goals as goal

pub invariant_of-self : goal.invariant_of-self
invariant_of-self g c = ready_pending _ c.self.invariant c.args.client.0 c.args.pending c.requires.ready
