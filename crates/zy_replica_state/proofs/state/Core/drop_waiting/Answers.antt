use Rattle.zy_replica_state.proofs.ReadyLemmas.{ready_idle, ready_up_to}
use Rattle.zy_replica_state.proofs.state.Core.drop_waiting.Goals as goal

pub invariant_of-self : goal.invariant_of-self
invariant_of-self g c = rw c.cut_above.ensures (ready_up_to _ c.self.invariant c.end-end.result.0)

pub invariant_of-self-2 : goal.invariant_of-self-2
invariant_of-self-2 g c = rw (c.cut_above.ensures, c.in_ok-self-inside.ensures) (ready_idle _ (ready_up_to _ c.self.invariant c.end-end.result.0))
