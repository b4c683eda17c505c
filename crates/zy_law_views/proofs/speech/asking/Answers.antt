use Rattle.zy_law_views.proofs.InView.{says_other}
use Rattle.zy_law_views.proofs.speech.asking.Goals as goal

pub returns : goal.returns
returns g c =
    let R = g.M.Machine.rules in
    record {
      other = λ interval r w c history lawful correct tied. says_other R interval w lawful r correct c history tied;
    }
