use Rattle.zy_law_views.proofs.Confirming.{may_confirm, tied_confirmed}
use Rattle.zy_law_views.proofs.views.confirming_views.Goals as goal

pub returns : goal.returns
returns g c =
    let R = g.M.Machine.rules in
    record {
      says = λ interval r w c history a lawful links correct tied leaving none is. may_confirm R interval w lawful links r correct c history tied a leaving none is;
      tied = λ interval r w c history a sig lawful links correct tied leaving none is. tied_confirmed R interval w lawful links r correct c history tied a leaving none is sig;
    }
