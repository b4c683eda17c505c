use Rattle.std.proofs.Common.{◌∙◌}
use Rattle.zy_replica_views.proofs.CountLemmas.{checkpoints_count}
use Rattle.zy_replica_views.proofs.judging.checkpoints.Goals as goal

pub returns : goal.returns
returns c = c.saturating_sub.ensures ∙ checkpoints_count c.args.interval c.args.low.0 c.args.high.0 c.requires
