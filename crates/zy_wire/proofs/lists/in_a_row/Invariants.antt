use Rattle.std.proofs.Common.{◌≡◌, ◌-◌, length, All}
use Rattle.zy_wire.specs.Spelling.{repeated_at}
use Rattle.zy_wire.proofs.Loop.{with_front}
use Rattle.zy_wire.proofs.lists.in_a_row.Given as goal

abbrev pub invariant-loop : goal.invariant-loop
invariant-loop g l = record {
  read : with_front l.items.items (repeated_at g.T.Spelled.spelling (l.count - l.counter) l.cut) ≡ repeated_at g.T.Spelled.spelling l.count l.fn.cut;
  count : length l.items.items ≡ l.counter;
  in_range : All g.T.Spelled.in_range l.items.items;
}
