use Rattle.zy_replica_views.proofs.StateLemmas.{state_refused}
use Rattle.zy_replica_views.proofs.StepLemmas.{step_refused}
use Rattle.zy_replica_views.proofs.judging_laws.refusals.Goals as goal

pub returns-clause-steps : goal.returns-clause-steps
returns-clause-steps g c = λ s more attempt owed g' cause step same. step_refused g.M.Machine.rules s more attempt owed g' step cause same

pub returns-clause-states : goal.returns-clause-states
returns-clause-states g c = state_refused g.M.Machine.rules
