use Rattle.zy_law_views.proofs.BeginsWith.{begins_on_own, begins_on_told}
use Rattle.zy_law_views.proofs.begins.taking_up.Goals as goal

pub returns : goal.returns
returns g c =
    let R = g.M.Machine.rules in
    record {
      own = λ interval r texts w s history cert chosen p ready matches world due taken below. (_, begins_on_own R interval w r s history ready matches texts world cert chosen p due taken below);
      further = λ interval r texts w s history cert chosen p ready matches world due taken past. (_, begins_on_told R interval w r s history ready matches texts world cert chosen p due taken past);
    }
