use Rattle.std.proofs.Common.{◌≡◌, ◌∙◌}
use Rattle.zy_replica_state.proofs.ReadyLemmas.{certificate_sends, ready_without_accepted}
use Rattle.zy_replica_state.proofs.state.Core.take_certified.Goals as goal

pub invariant_of-self : goal.invariant_of-self
invariant_of-self g c = rw c.in-Ok.ensures.rest (ready_without_accepted _ c.self.invariant)

pub returns-in-Ok-clause-sends : goal.returns-in-Ok-clause-sends
returns-in-Ok-clause-sends g c = certificate_sends _ c.self.invariant c.in-Ok.cert c.in-Ok.chosen c.in-Ok.ensures.chosen c.in-Ok.ensures.certified
