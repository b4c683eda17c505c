use Rattle.zy_law_views.proofs.LeavingViews.{may_leave, tied_gone}
use Rattle.zy_law_views.proofs.views.leaving_views.Goals as goal

pub returns : goal.returns
returns g c =
    let R = g.M.Machine.rules in
    record {
      says = λ interval r w c history view lawful links correct tied above. may_leave R interval w lawful links r correct c history tied view above;
      tied = λ interval r w c history view sig lawful links correct tied above. tied_gone R interval w lawful links r correct c history tied view above sig;
    }
