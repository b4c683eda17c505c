use Rattle.std.proofs.Common.{sym, ◌∙◌, ap}
use Rattle.zy_base.specs.declared.step.Mode.{Mode}
use Rattle.zy_table.specs.Hates.{on_request_timer}
use Rattle.zy_table.specs.Beginning.{finished}
use Rattle.zy_replica.proofs.timers.on_request_timer.Goals as goal

pub returns-in-Leaving : goal.returns-in-Leaving
returns-in-Leaving g c =
    let s = c.args.core in
    c.idle.ensures ∙ ap (λ (m : Mode). finished g.M.Machine.rules s (on_request_timer g.M.Machine.rules s m)) (sym c.in-Leaving.is ∙ c.mode.ensures)
