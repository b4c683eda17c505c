use Rattle.zy_replica_views.proofs.EndedLemmas.{row_ends}
use Rattle.zy_replica_views.proofs.ending_laws.endings.Goals as goal

pub returns : goal.returns
returns g c = row_ends g.M.Machine.rules
