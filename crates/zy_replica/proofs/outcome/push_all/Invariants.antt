use Rattle.std.proofs.Common.{◌≡◌, ◌++◌, length}
use Rattle.zy_replica.proofs.outcome.push_all.Given as goal

abbrev pub invariant-loop-entry : goal.invariant-loop-entry
invariant-loop-entry l =
    (l.got ++ l.entry-iterator.rest.items ≡ l.initial.got ++ l.fn.more)
    × (length l.entry-iterator.rest.items ≡ l.entry-iterator.rest.len)
