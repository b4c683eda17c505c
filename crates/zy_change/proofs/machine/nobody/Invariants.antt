use Rattle.std.proofs.Common.{◌≡◌, replicate, false}
use Rattle.zy_change.proofs.machine.nobody.Given as goal

abbrev pub invariant-loop : goal.invariant-loop
invariant-loop l = l.hated.items ≡ replicate l.counter false
