use Rattle.zy_world_law.proofs.SmallRun.{small_run}
use Rattle.zy_world_law.proofs.example.a_small_run.Goals as goal

pub returns : goal.returns
returns g c = small_run g.M.Machine.rules
