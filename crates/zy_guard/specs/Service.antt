-- The guarded space as a replicated service: what operations given by their bytes do, and the spelling of its state.
use Rattle.std.specs.Prelude.{ℕ, zero, suc, nat_lt, nat_le, Bool, true, ◌&&◌, if◌then◌else◌, List, [], Option, Some, None, Result, Ok, Err}
use Rattle.std.specs.List.{list_all}
use Rattle.zy_base.specs.Machine.{Rules}
use Rattle.zy_base.specs.declared.frame_fault.FrameFault.{FrameFault}
use Rattle.zy_wire.specs.Spelling.{Spelling, whole}
use Rattle.zy_wire.specs.Fields.{list}
use Rattle.zy_tuple.specs.declared.values.Reply.TheVariants.{Bad}
use Rattle.zy_guard.specs.declared.values.Owned.{Owned}
use Rattle.zy_guard.specs.declared.values.GuardOp.{GuardOp}
use Rattle.zy_guard.specs.declared.values.GuardReply.TheVariants.{Plain}
use Rattle.zy_guard.specs.GuardedSpace.{Step, stayed, owned_by, guard_step}
use Rattle.zy_guard.specs.Bytes.{op_in, guard_reply_bytes, owned_spelling}

-- a list with a number that is no byte spells nothing
abbrev pub is_bytes : List ℕ → Bool
is_bytes bytes = list_all (λ b. nat_lt b 256) bytes

abbrev pub refused : List Owned → Step
refused state = stayed (Plain Bad) state

abbrev pub answered : ℕ → Result GuardOp FrameFault → List Owned → Step
answered client (Ok op) state = guard_step client op state
answered client (Err fault) state = refused state

-- the operation that the bytes spell is run; where they spell none the reply is Bad and the state stays
unfoldable pub ran : ℕ → List ℕ → List Owned → Step
ran client bytes state = if is_bytes bytes then answered client (op_in bytes) state else refused state

-- up to 4,096 tuples with their owners, oldest first, behind their count in two bytes
abbrev pub state_spelling : Spelling (List Owned)
state_spelling = list 0 4096 owned_spelling

-- whether each of so many clients has put in at most 64 of them
abbrev pub is_few_below : ℕ → List Owned → Bool
is_few_below zero state = true
is_few_below (suc client) state = nat_le (owned_by client state) 64 && is_few_below client state

abbrev pub if_few : List Owned → Option (List Owned)
if_few state = if is_few_below 64 state then Some state else None

abbrev pub few_of : Result (List Owned) FrameFault → Option (List Owned)
few_of (Ok state) = if_few state
few_of (Err fault) = None

-- the state that the bytes spell, all of them
unfoldable pub state_in : List ℕ → Option (List Owned)
state_in bytes = if is_bytes bytes then few_of (whole state_spelling bytes) else None

abbrev pub guard_rules : Rules (List Owned)
guard_rules =
    record {
      initial = [];
      next = λ state client op. (ran client.0 op state).state;
      reply = λ state client op. guard_reply_bytes (ran client.0 op state).reply;
      spelled = state_spelling.spell;
      read = state_in;
    }
