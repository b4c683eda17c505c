use Rattle.zy_replica_views.proofs.ConfirmLemmas.{new_ends, new_refused}
use Rattle.zy_replica_views.proofs.ending_laws.new_views.Goals as goal

pub returns-clause-confirmed : goal.returns-clause-confirmed
returns-clause-confirmed g c = new_ends g.M.Machine.rules

pub returns-clause-refused : goal.returns-clause-refused
returns-clause-refused g c = new_refused g.M.Machine.rules
