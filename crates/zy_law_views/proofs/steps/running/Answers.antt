use Rattle.zy_law_views.proofs.TieKept.{may_run, tied_run}
use Rattle.zy_law_views.proofs.steps.running.Goals as goal

pub returns : goal.returns
returns g c =
    let R = g.M.Machine.rules in
    record {
      stands = λ interval r w c history view e lawful correct tied active is. may_run R interval w lawful r correct c history tied view active e is;
      tied = λ interval r w c history view e lawful correct tied active is. tied_run R interval w lawful r correct c history tied view active e is;
    }
