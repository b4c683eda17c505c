-- The bytes of operations, replies and states.
use Rattle.std.proofs.Common.{◌≡◌, ℕ, suc, true, List, None, Err, [], ◌∷◌, Result, Ok, refl}
use Rattle.std.specs.Prelude.{IsErr, nat_lt}
use Rattle.std.proofs.lemmas.Bool.{lt-ltb, and_from}
use Rattle.zy_base.specs.declared.frame_fault.FrameFault.{FrameFault}
use Rattle.zy_wire.specs.Spelling.{IsBytes, whole}
use Rattle.zy_guard.specs.declared.values.Owned.{Owned}
use Rattle.zy_guard.specs.declared.values.GuardOp.{GuardOp}
use Rattle.zy_guard.specs.Bytes.{op_in}
use Rattle.zy_guard.specs.Service.{is_bytes, answered, refused, ran, few_of, state_in, state_spelling}

pub bytes_are : (bytes : List ℕ) → IsBytes bytes → is_bytes bytes ≡ true
bytes_are [] fits = refl
bytes_are (b ∷ bytes) fits = and_from (nat_lt b 256) (is_bytes bytes) (lt-ltb b 256 (fits 0)) (bytes_are bytes (λ i. fits (suc i)))

-- bytes are read as a state or not at all
pub read_bytes : (bytes : List ℕ) → IsBytes bytes → state_in bytes ≡ few_of (whole state_spelling bytes)
unfolding state_in
read_bytes bytes fits = rw (bytes_are bytes fits) refl

pub nothing_read : (read : Result (List Owned) FrameFault) → IsErr read → few_of read ≡ None
nothing_read (Ok state) failed = absurd (cc)
nothing_read (Err fault) failed = refl

pub ran_read : (client : ℕ) (bytes : List ℕ) (state : List Owned) → IsBytes bytes → ran client bytes state ≡ answered client (op_in bytes) state
unfolding ran
ran_read client bytes state fits = rw (bytes_are bytes fits) refl

pub no_operation : (client : ℕ) (read : Result GuardOp FrameFault) (state : List Owned) → IsErr read → answered client read state ≡ refused state
no_operation client (Ok op) state failed = absurd (cc)
no_operation client (Err fault) state failed = refl
