use Rattle.std.proofs.Common.{◌≡◌, ◌++◌, drop, map, take}
use Rattle.zy_change.specs.Views.{change_past}
use Rattle.zy_change.proofs.beginning.drop_changes.Given as goal

abbrev pub invariant-loop-slot : goal.invariant-loop-slot
invariant-loop-slot l = l.changes ≡ map (change_past l.view.0) (take l.slot-index l.fn.changes) ++ drop l.slot-index l.fn.changes
