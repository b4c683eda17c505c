use Rattle.std.proofs.Common.{◌≡◌, ◌-◌}
use Rattle.zy_tuple.specs.Reading.{fields_at}
use Rattle.zy_tuple.proofs.Fields.{with_front}
use Rattle.zy_tuple.proofs.reading.items.Given as goal

abbrev pub invariant-loop-place : goal.invariant-loop-place
invariant-loop-place g l = with_front l.items.items (fields_at g.T.Item.item_at (8 - l.place) l.rest) ≡ fields_at g.T.Item.item_at 8 l.line
