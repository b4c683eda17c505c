use Rattle.zy_replica_state.proofs.ReadyLemmas.{ready_with_began}
use Rattle.zy_replica_state.proofs.state.Core.keep_began.Goals as goal

pub invariant_of-self : goal.invariant_of-self
invariant_of-self g c = rw c.keep_began.ensures (ready_with_began _ c.self.invariant c.args.vote)
