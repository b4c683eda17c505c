use Rattle.zy_law_views.proofs.BeginsWith.{begins_installed}
use Rattle.zy_law_views.proofs.begins.installing_states.Goals as goal

pub returns : goal.returns
returns g c = λ interval r texts w s history cert chosen p bytes k ready matches world due some kept installed.
    let is = begins_installed g.M.Machine.rules interval w r s history ready matches texts world cert chosen p due bytes k some kept installed in (_, is.begun)
