use Rattle.zy_replica_state.proofs.ReadyLemmas.{ready_local}
use Rattle.zy_replica_state.proofs.state.Core.keep_local.Goals as goal

pub invariant_of-self : goal.invariant_of-self
invariant_of-self g c = rw c.in-Ok.ensures.ok (ready_local _ c.self.invariant c.args.local c.requires)
