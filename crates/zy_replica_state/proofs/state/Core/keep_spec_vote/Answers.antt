use Rattle.zy_replica_state.proofs.ReadyLemmas.{ready_spec}
use Rattle.zy_replica_state.proofs.state.Core.keep_spec_vote.Goals as goal

pub invariant_of-self : goal.invariant_of-self
invariant_of-self g c = ready_spec _ _ c.spec-kept.result _ _ c.self.invariant c.requires.range c.spec-kept.ensures.kept c.spec-kept.ensures.err

pub invariant_of-self-in-None : goal.invariant_of-self-in-None
invariant_of-self-in-None g c = ready_spec _ _ c.spec-kept-in-None.result _ _ c.self.invariant c.requires.range c.spec-kept-in-None.ensures.kept c.spec-kept-in-None.ensures.err
