use Rattle.zy_replica_state.proofs.ReadyLemmas.{ready_fetch}
use Rattle.zy_replica_state.proofs.state.Core.keep_fetch.Goals as goal

pub invariant_of-self : goal.invariant_of-self
invariant_of-self g c = rw c.in-Ok.ensures.ok (ready_fetch _ c.self.invariant c.args.said c.requires)
