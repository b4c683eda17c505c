-- The tuple space as a replicated service: what operations given by their bytes do, and the spelling of its state.
use Rattle.std.specs.Prelude.{ℕ, nat_lt, Bool, if◌then◌else◌, List, [], Option, Some, None, Result, Ok, Err}
use Rattle.std.specs.List.{list_all}
use Rattle.zy_base.specs.Machine.{Rules}
use Rattle.zy_base.specs.declared.frame_fault.FrameFault.{FrameFault}
use Rattle.zy_wire.specs.Spelling.{Spelling, whole}
use Rattle.zy_wire.specs.Fields.{list, FitsList}
use Rattle.zy_tuple.specs.declared.values.Field.{Field}
use Rattle.zy_tuple.specs.declared.values.Op.{Op}
use Rattle.zy_tuple.specs.declared.values.Reply.TheVariants.{Bad}
use Rattle.zy_tuple.specs.Values.{IsTuple}
use Rattle.zy_tuple.specs.Bytes.{op_in, reply_bytes, tuple_spelling}
use Rattle.zy_space.specs.TupleSpace.{Step, step}

-- a list with a number that is no byte spells nothing
abbrev pub is_bytes : List ℕ → Bool
is_bytes bytes = list_all (λ b. nat_lt b 256) bytes

abbrev pub refused : List (List Field) → Step
refused tuples = record { tuples = tuples; reply = Bad }

abbrev pub answered : Result Op FrameFault → List (List Field) → Step
answered (Ok op) tuples = step op tuples
answered (Err fault) tuples = refused tuples

-- the operation that the bytes spell is run; where they spell none the reply is Bad and the tuples stay
unfoldable pub ran : List ℕ → List (List Field) → Step
ran bytes tuples = if is_bytes bytes then answered (op_in bytes) tuples else refused tuples

-- up to 4,096 tuples, oldest first, behind their count in two bytes
abbrev pub state_spelling : Spelling (List (List Field))
state_spelling = list 0 4096 tuple_spelling

abbrev pub IsSpaceState : List (List Field) → Type 0
IsSpaceState tuples = FitsList IsTuple 0 4096 tuples

abbrev pub value_of : {A : Type 0} → Result A FrameFault → Option A
value_of (Ok x) = Some x
value_of (Err fault) = None

-- the state that the bytes spell, all of them
unfoldable pub state_in : List ℕ → Option (List (List Field))
state_in bytes = if is_bytes bytes then value_of (whole state_spelling bytes) else None

abbrev pub space_rules : Rules (List (List Field))
space_rules =
    record {
      initial = [];
      next = λ tuples client op. (ran op tuples).tuples;
      reply = λ tuples client op. reply_bytes (ran op tuples).reply;
      spelled = state_spelling.spell;
      read = state_in;
    }
