use Rattle.std.proofs.Common.{◌≡◌, take}
use Rattle.std.specs.List.{flat_map}
use Rattle.std.specs.Option.{unwrap_or}
use Rattle.zy_pieces.proofs.gathering.join.Given as goal

abbrev pub invariant-loop-slot : goal.invariant-loop-slot
invariant-loop-slot l = l.frame.items ≡ flat_map (λ slot. unwrap_or slot l.last.payload) (take l.slot-index l.slots)
