use Rattle.std.proofs.Common.{◌<◌}
use Rattle.zy_chain.specs.Stretch.{Mark}
use Rattle.zy_choose.specs.Choice.{IsAgreed, last_in}
use Rattle.zy_choose.specs.Marks.{link, mark_of}
use Rattle.zy_choose.proofs.choice.agreed.Given as goal

-- no mark of a place that was passed is agreed on
abbrev pub invariant-loop-below : goal.invariant-loop-below
invariant-loop-below l = (other : Mark) → l.below < other.place → IsAgreed link l.agree (last_in l.view.0 l.reports) (mark_of l.anchor) other → ⊥
