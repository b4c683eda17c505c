use Rattle.zy_law_views.proofs.InstalledWorld.{state_installed}
use Rattle.zy_law_views.proofs.example.a_state_installed.Goals as goal

pub returns : goal.returns
returns g c = λ texts k kept stands. state_installed g.M.Machine.rules texts k kept stands
