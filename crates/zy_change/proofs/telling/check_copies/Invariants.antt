use Rattle.std.proofs.Common.{◌≡◌, take}
use Rattle.zy_change.proofs.telling.check_copies.Given as goal

abbrev pub invariant-loop-check : goal.invariant-loop-check
invariant-loop-check l = l.checks ≡ take l.check-index l.proof
