use Rattle.zy_law_views.proofs.SmallChange.{small_change}
use Rattle.zy_law_views.proofs.example.a_change_of_view.Goals as goal

pub returns : goal.returns
returns g c = small_change g.M.Machine.rules
