-- A guarded space over time: its state now, and the earlier states that it can go back to.
use Rattle.std.specs.Prelude.{List, [], ◌∷◌, ◌++◌}
use Rattle.zy_guard.specs.declared.values.Owned.{Owned}

pub record Timeline : Type 0 where
  -- what is in the space, oldest first
  pub state : List Owned
  -- each earlier state, the oldest one first
  pub trail : List (List Owned)

-- the state is now this, and the one before is the last of the trail
abbrev pub onward : Timeline → List Owned → Timeline
onward before state = record { state = state; trail = before.trail ++ before.state ∷ [] }
