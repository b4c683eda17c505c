use Rattle.zy_law_steps.proofs.SpelledAtStart.{start_spelled}
use Rattle.zy_law_steps.proofs.start.spelled_start.Goals as goal

pub returns : goal.returns
returns g c = start_spelled g.M.Machine.rules
