use Rattle.zy_law_views.proofs.Giving.{may_give, tied_given}
use Rattle.zy_law_views.proofs.views.giving_views.Goals as goal

pub returns : goal.returns
returns g c =
    let R = g.M.Machine.rules in
    record {
      says = λ interval r w c history a lawful links correct tied leaving none leads is. may_give R interval w lawful links r correct c history tied a leaving none leads is;
      tied = λ interval r w c history a lawful links correct tied leaving none leads is. tied_given R interval w lawful links r correct c history tied a leaving none leads is;
    }
