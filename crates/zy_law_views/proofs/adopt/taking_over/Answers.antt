use Rattle.zy_law_views.proofs.Verdicts.{taken_adopted}
use Rattle.zy_law_views.specs.Cores.{core_of}
use Rattle.zy_law_views.proofs.adopt.taking_over.Goals as goal

pub returns : goal.returns
returns g c = λ interval r texts w s history n place head p lawful correct matches world tied is later taken.
    (_, taken_adopted g.M.Machine.rules interval w lawful matches r correct (core_of s) history tied n place head p is later texts world taken)
