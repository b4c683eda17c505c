-- What readers that take memory answer and leave.
use Rattle.std.specs.Prelude.{◌≡◌, ℕ, List, Result, Ok, Err}
use Rattle.zy_base.specs.declared.frame_fault.FrameFault.{FrameFault}
use Rattle.zy_wire.specs.Spelling.{Spelling}
use Rattle.zy_wire.specs.declared.get_fault.GetFault.{GetFault}
use Rattle.zy_wire.specs.declared.get_fault.GetFault.TheVariants.{Frame, Want}

-- the fault that the bytes have, or want of memory
abbrev pub IsFaultAt : {A : Type 0} → Spelling A → List ℕ → GetFault → Type 0
IsFaultAt S bytes (Frame fault) = S.at bytes ≡ Err fault
IsFaultAt S bytes Want = Unit {0}

-- The value at the front is answered, and the bytes after it are left; else all is left.
abbrev pub Gets : {A : Type 0} → Spelling A → List ℕ → Result A GetFault → List ℕ → Type 0
Gets S old (Ok x) new = S.at old ≡ Ok (x, new)
Gets S old (Err e) new = IsFaultAt S old e × (new ≡ old)

-- The same where nothing is said of what a refusal leaves, the value being seen by view.
abbrev pub Took : {X A : Type 0} → (X → A) → Spelling A → List ℕ → Result X GetFault → List ℕ → Type 0
Took view S old (Ok x) new = S.at old ≡ Ok (view x, new)
Took view S old (Err e) new = IsFaultAt S old e

-- The same by a function that reads from the left.
abbrev pub TookAt : {A : Type 0} → (List ℕ → Result (A × List ℕ) FrameFault) → List ℕ → Result A GetFault → List ℕ → Type 0
TookAt at old (Ok x) new = at old ≡ Ok (x, new)
TookAt at old (Err (Frame fault)) new = at old ≡ Err fault
TookAt at old (Err Want) new = Unit {0}

-- What a reader of all the bytes answers: what reading gives, unless memory runs out.
abbrev pub IsFaultOf : {A : Type 0} → Result A FrameFault → GetFault → Type 0
IsFaultOf read (Frame fault) = read ≡ Err fault
IsFaultOf read Want = Unit {0}

abbrev pub Decodes : {A : Type 0} → Result A GetFault → Result A FrameFault → Type 0
Decodes (Ok x) read = read ≡ Ok x
Decodes (Err e) read = IsFaultOf read e
