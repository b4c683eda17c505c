use Rattle.zy_replica_state.proofs.ReadyLemmas.{ready_with_new}
use Rattle.zy_replica_state.proofs.state.Core.accept.Goals as goal

pub invariant_of-self : goal.invariant_of-self
invariant_of-self g c = rw c.accept.ensures (ready_with_new _ c.self.invariant c.args.accepted c.args.own c.requires.sends)
