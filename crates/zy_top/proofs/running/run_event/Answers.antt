use Rattle.std.proofs.Common.{Err, refl, ap, ◌∙◌}
use Rattle.zy_top_words.specs.declared.exit.Broken.TheVariants as broken
use Rattle.zy_top.proofs.RunParts.{event_broke, event_told}
use Rattle.zy_top.proofs.running.run_event.Goals as goal
use Rattle.zy_world_law.specs.Events as events

pub returns-in-Ok-clause-run : goal.returns-in-Ok-clause-run
returns-in-Ok-clause-run g c whole shows =
    let goes = c.in-Ok.ensures.goes whole shows in
    event_told g.M.Machine.rules c.args.event whole goes.0 c.in-Ok.field-0.note c.in-Ok.field-0.world c.args.tale.now c.told.new.tale c.told.result goes.1 goes.2 c.told.ensures.told

pub returns-in-Err-Forged-clause-run : goal.returns-in-Err-Forged-clause-run
returns-in-Err-Forged-clause-run g c whole shows =
    let by = c.in-Err-Forged.field-0-0 in
    event_broke g.M.Machine.rules c.args.event whole (events.Broken.Forged by) broken.Forged c.args.tale.now
    (c.step.ensures.forged whole by shows (c.in-Err-Forged.is ∙ ap Err c.in-Err-Forged.field-0-is)) refl

pub returns-in-Err-Clash-clause-run : goal.returns-in-Err-Clash-clause-run
returns-in-Err-Clash-clause-run g c whole shows =
    let digest = c.in-Err-Clash.field-0-0 in
    event_broke g.M.Machine.rules c.args.event whole (events.Broken.Clash digest) broken.Clash c.args.tale.now
    (c.step.ensures.clash whole digest shows (c.in-Err-Clash.is ∙ ap Err c.in-Err-Clash.field-0-is)) refl
