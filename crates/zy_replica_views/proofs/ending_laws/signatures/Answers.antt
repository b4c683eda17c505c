use Rattle.zy_replica_views.proofs.SignLemmas.{taken_signs, waiting_signs}
use Rattle.zy_replica_views.proofs.ending_laws.signatures.Goals as goal

pub returns-clause-taken : goal.returns-clause-taken
returns-clause-taken g c = taken_signs g.M.Machine.rules

pub returns-clause-waiting : goal.returns-clause-waiting
returns-clause-waiting g c = waiting_signs g.M.Machine.rules
