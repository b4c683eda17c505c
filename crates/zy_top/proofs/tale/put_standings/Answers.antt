use Rattle.std.proofs.Common.{◌++◌, ◌∙◌, sym, ap, append_assoc}
use Rattle.std.specs.List.{flat_map, range_with_len}
use Rattle.zy_top.specs.Telling.{standing_of}
use Rattle.zy_schedule.proofs.MadeLaws.{range_more}
use Rattle.zy_top.proofs.tale.put_standings.Goals as goal

pub loop-id-preserved : goal.loop-id-preserved
loop-id-preserved g c whole shows =
    let one = standing_of g.M.Machine.rules whole in
    let before = flat_map one (range_with_len 0 c.loop-id.id) in
    c.in_ok-put_standing.ensures whole shows ∙ ap (λ text. text ++ one c.loop-id.id) (c.loop-id.invariant whole shows)
    ∙ append_assoc c.args.text.now.items before (one c.loop-id.id) ∙ ap (λ lines. c.args.text.now.items ++ lines) (sym (range_more one c.loop-id.id))
