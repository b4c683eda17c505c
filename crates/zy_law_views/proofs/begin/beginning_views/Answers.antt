use Rattle.zy_law_views.proofs.Beginning.{may_begin, tied_begun}
use Rattle.zy_law_views.proofs.begin.beginning_views.Goals as goal

pub returns : goal.returns
returns g c =
    let R = g.M.Machine.rules in
    record {
      stands = λ interval r w c history cert chosen k next lawful correct tied is. may_begin R interval w lawful r correct c history tied cert chosen k next is;
      tied = λ interval r w c history cert chosen k next stable proof lawful correct tied is grounded. tied_begun R interval w lawful r correct c history tied cert chosen k next is stable proof grounded;
    }
