-- The bytes of operations, replies and states.
use Rattle.std.proofs.Common.{◌≡◌, ℕ, suc, true, List, None, Err, [], ◌∷◌, length, Result, Ok, ◌≤◌, refl, ◌∙◌, arith}
use Rattle.std.specs.Prelude.{IsErr, nat_lt}
use Rattle.std.proofs.lemmas.Bool.{lt-ltb, and_from}
use Rattle.zy_base.specs.declared.frame_fault.FrameFault.{FrameFault}
use Rattle.zy_wire.specs.Spelling.{IsBytes, whole}
use Rattle.zy_wire.proofs.Parts.{whole_takes}
use Rattle.zy_tuple.specs.declared.values.Field.{Field}
use Rattle.zy_tuple.specs.Bytes.{op_in}
use Rattle.zy_space.specs.Service.{is_bytes, answered, ran, value_of, state_in, state_spelling, IsSpaceState}
use Rattle.zy_slots.specs.Cells.{Cells}
use Rattle.zy_space.specs.declared.changes.Change.{Change}
use Rattle.zy_space.specs.Changes.{tuples_of, AllTuples, IsSound, IsSpace}
use Rattle.zy_space.specs.Laws.{state-exact, state_from}
use Rattle.zy_space.proofs.ChangeLemmas.{length-tuples, tuples_are, space_made}

pub bytes_are : (bytes : List ℕ) → IsBytes bytes → is_bytes bytes ≡ true
bytes_are [] fits = refl
bytes_are (b ∷ bytes) fits = and_from (nat_lt b 256) (is_bytes bytes) (lt-ltb b 256 (fits 0)) (bytes_are bytes (λ i. fits (suc i)))

-- bytes are read as a state or not at all
pub read_bytes : (bytes : List ℕ) → IsBytes bytes → state_in bytes ≡ value_of (whole state_spelling bytes)
unfolding state_in
read_bytes bytes fits = rw (bytes_are bytes fits) refl

pub nothing_read : {A : Type 0} (read : Result A FrameFault) → IsErr read → value_of read ≡ None
nothing_read (Ok x) failed = absurd (cc)
nothing_read (Err fault) failed = refl

pub ran_read : (bytes : List ℕ) (tuples : List (List Field)) → IsBytes bytes → ran bytes tuples ≡ answered (op_in bytes) tuples
unfolding ran
ran_read bytes tuples fits = rw (bytes_are bytes fits) refl

-- ---- the state of a space, and a space from the bytes of a state

pub space_state : (cells : Cells (List Field)) (changes : List Change) → IsSound cells changes → IsSpaceState (tuples_of cells.live)
space_state cells changes sound =
    state_from (tuples_of cells.live) (omega (arith, sound.few, length-tuples cells.live)) (tuples_are cells.live sound.tuples)

pub restored : (cells : Cells (List Field)) (live : ℕ) (bytes : List ℕ) → IsBytes bytes → whole state_spelling bytes ≡ Ok (tuples_of cells.live) → AllTuples cells.live → cells.stack ≡ [] → live ≡ length cells.live → IsSpace cells [] live
restored cells live bytes fits read all none many =
    let state = (whole_takes state_spelling state-exact bytes (tuples_of cells.live) fits read).1 in
    space_made cells live all none many (omega (arith, state.most, length-tuples cells.live, many))
