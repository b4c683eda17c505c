use Rattle.zy_calm.proofs.CalmRuns.{fast_runs, lines_quiet, slow_runs}
use Rattle.zy_calm.proofs.Serving.{IsMachine}
use Rattle.zy_calm.proofs.runs.calm_runs.Goals as goal
use Rattle.zy_calm.specs.Asks.{calm_lines}
use Rattle.zy_table.specs.declared.client.Path.TheVariants.{Fast, Slow}

pub returns : goal.returns
returns g c s Fast muted asks is =
    let R = g.M.Machine.rules in
    let met = g.met.M.Machine in
    let machine : IsMachine R g.M.Machine.IsState = record { starts = met.starts; stays = met.stays; short = met.short_reply } in
    fast_runs R g.M.Machine.IsState machine s muted asks is (c.no_run_is_forged.ensures.unforged s (calm_lines Fast muted asks) is.setup (lines_quiet s Fast muted asks is.each))
returns g c s Slow muted asks is =
    let R = g.M.Machine.rules in
    let met = g.met.M.Machine in
    let machine : IsMachine R g.M.Machine.IsState = record { starts = met.starts; stays = met.stays; short = met.short_reply } in
    slow_runs R g.M.Machine.IsState machine s muted asks is (c.no_run_is_forged.ensures.unforged s (calm_lines Slow muted asks) is.setup (lines_quiet s Slow muted asks is.each))
