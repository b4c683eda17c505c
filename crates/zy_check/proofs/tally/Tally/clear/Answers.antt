use Rattle.std.proofs.Common.{refl}
use Rattle.zy_check.proofs.tally.Tally.clear.Goals as goal

pub invariant_of-self : goal.invariant_of-self
invariant_of-self g c = rw c.clear.ensures.items (λ stmt. refl)
