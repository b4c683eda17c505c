use Rattle.zy_replica_state.proofs.ReadyLemmas.{ready_with_hate}
use Rattle.zy_replica_state.proofs.state.Core.with_hate.Goals as goal

pub invariant_of-self : goal.invariant_of-self
invariant_of-self g c = rw c.keep_hate.ensures (ready_with_hate _ c.self.invariant c.args.vote.by)
