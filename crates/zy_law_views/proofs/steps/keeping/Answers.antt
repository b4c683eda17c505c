use Rattle.zy_law_views.proofs.TieKept.{held_far, tied_heard, tied_holding, tied_settled}
use Rattle.zy_law_views.proofs.steps.keeping.Goals as goal

pub returns : goal.returns
returns g c =
    let R = g.M.Machine.rules in
    record {
      certificate = λ interval r w c history place specs lawful correct tied is. (tied_holding R interval w lawful r correct c history tied place specs is, held_far c.views place specs);
      settled = λ interval r place w c history stable proof lawful correct tied above below grounded. tied_settled R interval w lawful r correct c history tied place stable proof above below grounded;
      heard = λ interval r w c history changes begans hated waiting lawful correct tied hearing. tied_heard R interval w lawful r correct c history tied changes begans hated waiting hearing;
    }
