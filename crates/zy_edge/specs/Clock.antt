-- What a reading of a clock tells.
use Rattle.std.specs.Prelude.{◌≡◌, ℕ, ◌-◌, ◌^◌, Bool, false, ◌&&◌, nat_lt, nat_le, Option, Some, None, List, [], ◌∷◌, ◌++◌, length, min, slice_index, ⊤}

-- where the moments are told after a reading, they were before, and this one stands behind them
abbrev pub IsReading : ℕ → Option (List ℕ) → Option (List ℕ) → Type 0
IsReading moment before None = ⊤
IsReading moment before (Some after) = (earlier : List ℕ) × (before ≡ Some earlier) × (after ≡ earlier ++ moment ∷ [])

-- moments that a clock may tell: at least one, none before an earlier one, and each below 2^62
abbrev pub are_moments : List ℕ → Bool
are_moments [] = false
are_moments (last ∷ []) = nat_lt last (2 ^ 62)
are_moments (first ∷ second ∷ later) = nat_le first second && are_moments (second ∷ later)

-- the moment of a reading, counted from 0: the last one is told again and again
abbrev pub moment_at : List ℕ → ℕ → ℕ
moment_at moments reading = slice_index moments (min reading (length moments - 1))
