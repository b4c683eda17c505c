use Rattle.std.proofs.Common.{sym, ap, ◌∙◌}
use Rattle.std.proofs.lemmas.List.Edits.{map_over_more}
use Rattle.std.specs.Prelude.{slice_set}
use Rattle.zy_change.specs.Views.{unless_other}
use Rattle.zy_change.proofs.giving.drop_others.Goals as goal

pub loop-slot-preserved : goal.loop-slot-preserved
loop-slot-preserved c =
    ap (λ x. slice_set c.loop-slot.begans c.loop-slot.slot-index x) (c.drop_other.ensures ∙ ap (unless_other c.args.own.now) (sym c.slot-item.is))
    ∙ map_over_more (unless_other c.args.own.now) c.args.begans.now c.loop-slot.begans c.loop-slot.slot-index c.slot-item.result c.loop-slot-test.true c.loop-slot.invariant c.slot-item.is
