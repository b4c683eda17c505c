use Rattle.std.proofs.Common.{◌≡◌, ◌++◌, length, take}
use Rattle.std.specs.Int.{w8}
use Rattle.std.specs.List.{flat_map}
use Rattle.zy_wire.specs.Spelling.{bytes_of}
use Rattle.zy_tuple.proofs.spelling.put_few.Given as goal

abbrev pub invariant-loop-item : goal.invariant-loop-item
invariant-loop-item g l = l.out ≡ l.fn.out ++ (bytes_of w8 (length l.items) ++ flat_map g.T.Item.item_bytes (take l.item-index l.items))
