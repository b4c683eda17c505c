use Rattle.std.proofs.Common.{◌≡◌, ◌++◌, drop, map, take}
use Rattle.zy_change.specs.Views.{began_past}
use Rattle.zy_change.proofs.beginning.drop_begans.Given as goal

abbrev pub invariant-loop-slot : goal.invariant-loop-slot
invariant-loop-slot l = l.begans ≡ map (began_past l.view.0) (take l.slot-index l.fn.begans) ++ drop l.slot-index l.fn.begans
