use Rattle.zy_replica_state.proofs.ReadyLemmas.{ready_others, ready_spec}
use Rattle.zy_replica_state.proofs.state.Core.keep_own_spec.Goals as goal

pub invariant_of-self : goal.invariant_of-self
invariant_of-self g c =
    ready_spec _ _ c.spec.result _ _ (ready_others _ _ _ _ c.self.invariant c.drop_other.ensures) c.requires c.spec.ensures.kept c.spec.ensures.err

pub invariant_of-self-in-Err-1 : goal.invariant_of-self-in-Err-1
invariant_of-self-in-Err-1 g c =
    ready_spec _ _ c.spec.result _ _ (ready_others _ _ _ _ c.self.invariant c.drop_other.ensures) c.requires c.spec.ensures.kept c.spec.ensures.err
