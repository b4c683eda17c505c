-- Frames: values of several kinds, each behind the version and the number of its kind.
use Rattle.std.specs.Prelude.{ℕ, ◌≤◌, List, ◌∷◌, drop, Result}
use Rattle.zy_base.specs.declared.frame_fault.FrameFault.{FrameFault}
use Rattle.zy_wire.specs.Spelling.{IsChoice, ◌>>=◌, ended}
use Rattle.zy_wire.specs.Kind.{frame_version, greatest_kind, kind_in}

-- the version, the kind and the fields
abbrev pub frame_bytes : {A : Type 0} → (A → ℕ) → (A → List ℕ) → A → List ℕ
frame_bytes kind fields x = frame_version ∷ kind x ∷ fields x

-- the value that all of the bytes spell, or the first fault
unfoldable pub framed_in : {A : Type 0} → (ℕ → List ℕ → Result (A × List ℕ) FrameFault) → List ℕ → Result A FrameFault
framed_in at bytes = do
  kind ← kind_in bytes
  read ← at kind (drop 2 bytes)
  ended read.0 read.1

-- What is read by a kind was spelled so, and what was spelled is read by its kind, which is one of those of frames; and
-- what has a spelling is in range.
pub record IsFraming {A : Type 0} (kind : A → ℕ) (fields : A → List ℕ) (Fits InRange : A → Type 0) (at : ℕ → List ℕ → Result (A × List ℕ) FrameFault) : Type 0 where
  pub choice : IsChoice kind fields Fits at
  pub least : (x : A) → 1 ≤ kind x
  pub most : (x : A) → kind x ≤ greatest_kind
  pub ranges : (x : A) → Fits x → InRange x
