-- Counts of faults. A count never falls, and stays at its last value.
use Rattle.std.specs.Prelude.{◌≡◌, ◌⊎◌, ℕ, ◌+◌, ◌-◌, ◌^◌, ◌<◌, ◌≤◌, min, Bool, true, false}

-- a fault came: the count rose, or it stands at its last value, where it counts as risen
abbrev pub Rose : ℕ → ℕ → Type 0
Rose before after = (before < after) ⊎ (after ≡ 2 ^ 64 - 1)

-- one more, up to the last value
abbrev pub raised : ℕ → ℕ
raised count = min (count + 1) (2 ^ 64 - 1)

-- a call that failed raises its object's count by one, and no other moves it
abbrev pub IsCounted : Bool → ℕ → ℕ → Type 0
IsCounted true before after = (before ≤ after) × (after ≡ raised before)
IsCounted false before after = after ≡ before
