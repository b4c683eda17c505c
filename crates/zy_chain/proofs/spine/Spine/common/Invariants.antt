use Rattle.std.proofs.Common.{ℕ, ◌≤◌}
use Rattle.zy_chain.specs.Stretch.{IsShared}
use Rattle.zy_chain.proofs.spine.Spine.common.Given as goal

-- no place that was passed is shared
abbrev pub invariant-loop-place : goal.invariant-loop-place
invariant-loop-place l = (place : ℕ) → l.place ≤ place → IsShared l.self l.other place → ⊥
