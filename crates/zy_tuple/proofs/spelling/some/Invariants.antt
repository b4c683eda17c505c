use Rattle.std.proofs.Common.{◌≡◌, ◌-◌}
use Rattle.zy_wire.specs.Spelling.{repeated_at}
use Rattle.zy_tuple.specs.Bytes.{item}
use Rattle.zy_tuple.proofs.Items.{with_front}
use Rattle.zy_tuple.proofs.spelling.some.Given as goal

abbrev pub invariant-loop-place : goal.invariant-loop-place
invariant-loop-place g l = with_front l.items.items (repeated_at (item g.T.Item.item_bytes g.T.Item.item_at g.T.Item.IsItem) (l.count - l.place) l.cut) ≡ repeated_at (item g.T.Item.item_bytes g.T.Item.item_at g.T.Item.IsItem) l.count l.fn.cut
