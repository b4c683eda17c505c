use Rattle.std.proofs.Common.{refl}
use Rattle.zy_check.proofs.tally.Tally.new.Goals as goal

pub invariant_of-result : goal.invariant_of-result
invariant_of-result g c = rw c.new.ensures.items (λ stmt. refl)
