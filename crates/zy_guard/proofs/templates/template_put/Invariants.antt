use Rattle.std.proofs.Common.{◌≡◌, ◌++◌, length, take}
use Rattle.std.specs.Int.{w8}
use Rattle.std.specs.List.{flat_map}
use Rattle.zy_wire.specs.Spelling.{bytes_of}
use Rattle.zy_tuple.specs.Bytes.{slot_bytes}
use Rattle.zy_guard.proofs.templates.template_put.Given as goal

abbrev pub invariant-loop-slot : goal.invariant-loop-slot
invariant-loop-slot l = l.out ≡ l.fn.out ++ (bytes_of w8 (length l.template) ++ flat_map slot_bytes (take l.slot-index l.slots))
