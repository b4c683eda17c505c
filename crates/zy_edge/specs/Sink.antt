-- What a write does to what a sink has taken.
use Rattle.std.specs.Prelude.{◌≡◌, ℕ, ◌≤◌, Bool, true, false, Option, List, length, take, ⊤}
use Rattle.std.specs.Io.KnownBytes.{Keeps, Appends}
use Rattle.zy_edge.specs.declared.sink.Wrote as wrote

abbrev pub write_failed : wrote.Wrote → Bool
write_failed (wrote.TheVariants.Took _) = false
write_failed wrote.TheVariants.Failed = true

-- a write takes at least the first byte of its piece; a failure takes none
abbrev pub IsWrite : wrote.Wrote → List ℕ → Option (List ℕ) → Option (List ℕ) → Type 0
IsWrite (wrote.TheVariants.Took k) piece before after = (1 ≤ k) × (k ≤ length piece) × Appends before after (take k piece)
IsWrite wrote.TheVariants.Failed piece before after = Keeps before after

-- a write that doesn't fail takes its whole piece
abbrev pub IsWhole : wrote.Wrote → List ℕ → Type 0
IsWhole (wrote.TheVariants.Took k) piece = k ≡ length piece
IsWhole wrote.TheVariants.Failed piece = ⊤
