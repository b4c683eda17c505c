use Rattle.std.proofs.Common.{◌≡◌, replicate, None}
use Rattle.zy_exec.proofs.known.nothing.Given as goal

abbrev pub invariant-loop : goal.invariant-loop
invariant-loop g l = l.all.items ≡ replicate l.counter None
