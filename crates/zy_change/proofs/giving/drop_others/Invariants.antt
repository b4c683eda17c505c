use Rattle.std.proofs.Common.{◌≡◌, ◌++◌, drop, take}
use Rattle.zy_change.specs.Views.{without_others}
use Rattle.zy_change.proofs.giving.drop_others.Given as goal

abbrev pub invariant-loop-slot : goal.invariant-loop-slot
invariant-loop-slot l = l.begans ≡ without_others l.own (take l.slot-index l.fn.begans) ++ drop l.slot-index l.fn.begans
