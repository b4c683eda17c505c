use Rattle.zy_law_views.proofs.Verdicts.{not_refused}
use Rattle.zy_law_views.specs.Cores.{core_of}
use Rattle.zy_law_views.proofs.adopt.never_refused.Goals as goal

pub returns : goal.returns
returns g c = λ interval r w s history n place head p cause lawful correct matches tied is later refused.
    not_refused g.M.Machine.rules interval w lawful matches r correct (core_of s) history tied n place head p is later cause refused
