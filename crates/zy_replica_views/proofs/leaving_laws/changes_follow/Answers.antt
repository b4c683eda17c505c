use Rattle.zy_replica_views.proofs.FollowLemmas.{change_follows}
use Rattle.zy_replica_views.proofs.leaving_laws.changes_follow.Goals as goal

pub returns : goal.returns
returns g c = λ s vote owed signer replica. change_follows g.M.Machine.rules s vote signer replica owed
