use Rattle.zy_replica_views.proofs.FollowLemmas.{conclusion}
use Rattle.zy_replica_views.proofs.leaving_laws.conclusions.Goals as goal

pub returns : goal.returns
returns g c = conclusion g.M.Machine.rules
