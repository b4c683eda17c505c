use Rattle.std.proofs.Common.{◌∙◌, ap}
use Rattle.zy_base.specs.declared.step.Answer.TheVariants.{Taken}
use Rattle.zy_table.specs.Deeds.{Going}
use Rattle.zy_table.specs.Beginning.{finished}
use Rattle.zy_table.specs.Leaving.{goes}
use Rattle.zy_replica.proofs.timers.idle.Goals as goal

pub returns : goal.returns
returns g c = c.taken.ensures c.args.core ∙ ap (λ (x : Going g.row.M-State.Denot). finished g.M.Machine.rules c.args.core (goes Taken x)) c.begin.ensures
