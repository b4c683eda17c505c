use Rattle.zy_law_views.proofs.Timers.{timer_lawful}
use Rattle.zy_law_views.proofs.leaving.finished_timers.Goals as goal

pub returns : goal.returns
returns g c = λ interval r texts w s history kind ready kept. timer_lawful g.M.Machine.rules interval texts w r s history ready kept kind
