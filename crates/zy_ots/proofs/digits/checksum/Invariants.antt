use Rattle.std.proofs.Common.{◌≡◌}
use Rattle.zy_ots.specs.Coef.{complement_sum}
use Rattle.zy_ots.proofs.digits.checksum.Given as goal

abbrev pub invariant-elements : goal.invariant-elements
invariant-elements l = l.sum ≡ complement_sum l.ots l.q.0 l.i
