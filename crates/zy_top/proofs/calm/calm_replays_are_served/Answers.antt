use Rattle.zy_top.proofs.CalmReplays.{calm_served}
use Rattle.zy_top.proofs.calm.calm_replays_are_served.Goals as goal

pub returns : goal.returns
returns c = calm_served c.calm_runs.ensures
