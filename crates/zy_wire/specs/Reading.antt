-- What readers answer and leave.
use Rattle.std.specs.Prelude.{◌≡◌, ℕ, List, Result, Ok, Err}
use Rattle.zy_base.specs.declared.frame_fault.FrameFault.{FrameFault}
use Rattle.zy_wire.specs.Spelling.{Spelling}

-- The value at the front is answered, seen by view, and the bytes after it are left; or the fault, and all is left.
abbrev pub ReadsBy : {X A : Type 0} → (X → A) → Spelling A → List ℕ → Result X FrameFault → List ℕ → Type 0
ReadsBy view S old (Ok x) new = S.at old ≡ Ok (view x, new)
ReadsBy view S old (Err fault) new = (S.at old ≡ Err fault) × (new ≡ old)

abbrev pub Reads : {A : Type 0} → Spelling A → List ℕ → Result A FrameFault → List ℕ → Type 0
Reads S old result new = ReadsBy (λ x. x) S old result new
