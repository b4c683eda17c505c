use Rattle.std.proofs.Common.{◌≡◌, ℕ, ◌≤◌, ◌++◌, length, get_or, None}
use Rattle.std.specs.Vec.Iter.{into_iter_items, into_iter_len}
use Rattle.zy_exec.specs.Snapshot.{listed}
use Rattle.zy_exec.specs.Reading.{is_rising}
use Rattle.zy_exec.proofs.snapshot.slots_of.Given as goal

-- the rows so far have their slots, and the slots from the next number on are free
abbrev pub invariant-loop-row : goal.invariant-loop-row
invariant-loop-row l = record {
  taken : listed 0 l.slots.items ++ into_iter_items l.row-iterator ≡ l.fn.rows;
  rising : is_rising 0 l.fn.rows ≡ is_rising l.least (into_iter_items l.row-iterator);
  all : length l.slots.items ≡ 64;
  free : (client : ℕ) → l.least ≤ client → get_or l.slots.items client None ≡ None;
  left : into_iter_len l.row-iterator ≡ length (into_iter_items l.row-iterator);
}
