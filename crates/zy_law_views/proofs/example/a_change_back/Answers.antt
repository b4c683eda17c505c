use Rattle.zy_law_views.proofs.SmallChange.{change_back}
use Rattle.zy_law_views.proofs.example.a_change_back.Goals as goal

pub returns : goal.returns
returns g c = λ interval some. change_back g.M.Machine.rules interval some
