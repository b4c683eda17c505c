use Rattle.zy_replica_state.proofs.ReadyLemmas.{ready_check}
use Rattle.zy_replica_state.proofs.state.Core.keep_own_check.Goals as goal

pub invariant_of-self : goal.invariant_of-self
invariant_of-self g c = ready_check _ _ c.vote.result _ _ c.self.invariant c.requires c.vote.ensures.kept c.vote.ensures.err
