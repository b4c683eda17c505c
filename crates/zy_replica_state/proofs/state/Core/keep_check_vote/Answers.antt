use Rattle.zy_replica_state.proofs.ReadyLemmas.{ready_check}
use Rattle.zy_replica_state.proofs.state.Core.keep_check_vote.Goals as goal

pub invariant_of-self : goal.invariant_of-self
invariant_of-self g c = ready_check _ _ c.vote-kept.result _ _ c.self.invariant c.requires.range c.vote-kept.ensures.kept c.vote-kept.ensures.err

pub invariant_of-self-in-None : goal.invariant_of-self-in-None
invariant_of-self-in-None g c = ready_check _ _ c.vote-kept-in-None.result _ _ c.self.invariant c.requires.range c.vote-kept-in-None.ensures.kept c.vote-kept-in-None.ensures.err
