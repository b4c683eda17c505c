use Rattle.zy_world_law.specs.Runs.{run}
use Rattle.zy_world_law.specs.World.{start}
use Rattle.zy_top.proofs.MadeRuns.{summed_report, summed_stop}
use Rattle.zy_top.proofs.making.run_made.Goals as goal

pub returns-in-Ok : goal.returns-in-Ok
returns-in-Ok g c =
    let R = g.M.Machine.rules in
    let first = start R c.args.setup in
    let ran = c.in-Ok.ensures.run first c.in_ok-world.ensures in
    summed_report c.args.asks (run R c.args.lines.items first) c.new-tale.result c.run_lines.new.tale
    (c.new-tale.ensures.events, c.new-tale.ensures.fast, c.new-tale.ensures.slow, c.new-tale.ensures.refused) ran.3 ran.0 c.in_ok-sum_up-in-Ok.field-0 ran.1
    (c.in_ok-sum_up-in-Ok.ensures ran.0 ran.2)

pub returns-in-Err-Broke : goal.returns-in-Err-Broke
returns-in-Err-Broke g c =
    let R = g.M.Machine.rules in
    let first = start R c.args.setup in
    let ran = rw c.in-Err-Broke.field-0-is at (c.in-Err-Broke.ensures.run first c.in_ok-world.ensures) in
    rw c.in-Err-Broke.what-is
    (summed_stop c.args.asks (run R c.args.lines.items first) c.new-tale.result c.run_lines.new.tale
    (c.new-tale.ensures.events, c.new-tale.ensures.fast, c.new-tale.ensures.slow, c.new-tale.ensures.refused) ran.3 ran.0 _ ran.1 ran.2)
