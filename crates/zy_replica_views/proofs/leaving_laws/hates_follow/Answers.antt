use Rattle.zy_replica_views.proofs.FollowLemmas.{hate_follows, counted_follows}
use Rattle.zy_replica_views.proofs.leaving_laws.hates_follow.Goals as goal

pub returns-clause-heard : goal.returns-clause-heard
returns-clause-heard g c = hate_follows g.M.Machine.rules

pub returns-clause-counted : goal.returns-clause-counted
returns-clause-counted g c = counted_follows g.M.Machine.rules
