use Rattle.zy_replica_views.proofs.FollowLemmas.{leave_follows}
use Rattle.zy_replica_views.proofs.leaving_laws.leaves_follow.Goals as goal

pub returns : goal.returns
returns g c = leave_follows g.M.Machine.rules
