-- The one spelling of each operation, reply and tuple of the guarded space in bytes, and how they are read from the left.
use Rattle.std.specs.Prelude.{ℕ, ◌==◌, nat_lt, Bool, ◌&&◌, if◌then◌else◌, List, ◌++◌, Option, Some, None, Result, Err}
use Rattle.std.specs.Int.{w8, w64}
use Rattle.zy_base.specs.declared.frame_fault.FrameFault.{FrameFault}
use Rattle.zy_base.specs.declared.frame_fault.FrameFault.TheVariants.{Range}
use Rattle.zy_wire.specs.Spelling.{Spelling, ◌>>=◌, word, word_at, pair, converted, made, refined, ended}
use Rattle.zy_tuple.specs.Bytes.{byte, slot, few_at, template_bytes, tuple_spelling, reply_bytes}
use Rattle.zy_tuple.specs.Values.{IsTemplate}
use Rattle.zy_tuple.specs.declared.values.Field.{Field}
use Rattle.zy_tuple.specs.declared.values.Slot.{Slot}
use Rattle.zy_guard.specs.declared.values.Access.{Access}
use Rattle.zy_guard.specs.declared.values.Owned.{Owned}
use Rattle.zy_guard.specs.declared.values.Denial.{Denial}
use Rattle.zy_guard.specs.declared.values.GuardOp.{GuardOp}
use Rattle.zy_guard.specs.declared.values.GuardOp.TheVariants.{Out, Rdp, Inp, Cas}
use Rattle.zy_guard.specs.declared.values.GuardReply.{GuardReply}
use Rattle.zy_guard.specs.declared.values.GuardReply.TheVariants.{Plain, Denied}
use Rattle.zy_guard.specs.GuardedSpace.{sees, is_within, rule_of, IsOwned}

-- ---- operations

-- the readers and the takers, each a number of 64 bits
abbrev pub access_of : ℕ × ℕ → Access
access_of sets = record { readers = record { 0 = sets.0 }; takers = record { 0 = sets.1 } }

abbrev pub sets_of : Access → ℕ × ℕ
sets_of access = (access.readers.0, access.takers.0)

abbrev pub access_spelling : Spelling Access
access_spelling = converted access_of sets_of (pair (word w64) (word w64))

abbrev pub template_spelling : Spelling (List Slot)
template_spelling = record { spell = template_bytes; at = few_at slot; Fits = IsTemplate }

abbrev pub out_spelling : Spelling (Access × List Field)
out_spelling = pair access_spelling tuple_spelling

abbrev pub cas_spelling : Spelling (List Slot × (Access × List Field))
cas_spelling = pair template_spelling out_spelling

abbrev pub out_of : Access × List Field → GuardOp
out_of parts = Out parts.0 parts.1

abbrev pub cas_of : List Slot × (Access × List Field) → GuardOp
cas_of parts = Cas parts.0 parts.1.0 parts.1.1

abbrev pub op_kind : GuardOp → ℕ
op_kind (Out access tuple) = 5
op_kind (Rdp template) = 6
op_kind (Inp template) = 7
op_kind (Cas template access tuple) = 8

-- what stands behind the kind
abbrev pub op_fields : GuardOp → List ℕ
op_fields (Out access tuple) = out_spelling.spell (access, tuple)
op_fields (Rdp template) = template_bytes template
op_fields (Inp template) = template_bytes template
op_fields (Cas template access tuple) = cas_spelling.spell (template, (access, tuple))

abbrev pub op_bytes : GuardOp → List ℕ
op_bytes op = byte (op_kind op) ++ op_fields op

abbrev pub cas_at : List ℕ → Result (GuardOp × List ℕ) FrameFault
cas_at bytes = made cas_of cas_spelling bytes

abbrev pub op_of_kind : ℕ → List ℕ → Result (GuardOp × List ℕ) FrameFault
op_of_kind kind bytes =
    if kind == 5
    then made out_of out_spelling bytes
    else (if kind == 6
    then made Rdp template_spelling bytes
    else (if kind == 7
    then made Inp template_spelling bytes
    else (if kind == 8 then cas_at bytes else Err Range)))

unfoldable pub op_at : List ℕ → Result (GuardOp × List ℕ) FrameFault
op_at bytes = word_at w8 bytes >>= λ kind. op_of_kind kind.0 kind.1

-- all of the bytes
unfoldable pub op_in : List ℕ → Result GuardOp FrameFault
op_in bytes = op_at bytes >>= λ op. ended op.0 op.1

-- ---- replies

abbrev pub denial_bytes : Denial → List ℕ
denial_bytes denial = byte 7 ++ byte (rule_of denial)

-- those of the tuple space, and 7 with the number of the rule that failed
abbrev pub guard_reply_bytes : GuardReply → List ℕ
guard_reply_bytes (Plain reply) = reply_bytes reply
guard_reply_bytes (Denied denial) = denial_bytes denial

-- ---- tuples with their owner

abbrev pub owned_from : ℕ × (Access × List Field) → Owned
owned_from parts = record { owner = record { 0 = parts.0 }; access = parts.1.0; tuple = parts.1.1 }

abbrev pub owned_parts : Owned → ℕ × (Access × List Field)
owned_parts owned = (owned.owner.0, (owned.access, owned.tuple))

-- whether an owner may read its tuple, and so may each that may take it
abbrev pub is_kept : Owned → Bool
is_kept owned = nat_lt owned.owner.0 64 && (sees owned.owner.0 owned && is_within owned.access.takers.0 owned.access.readers.0)

abbrev pub if_kept : Owned → Option Owned
if_kept owned = if is_kept owned then Some owned else None

abbrev pub owned_made : ℕ × (Access × List Field) → Option Owned
owned_made parts = if_kept (owned_from parts)

abbrev pub owned_fields : Spelling (ℕ × (Access × List Field))
owned_fields = pair (word w8) out_spelling

unfoldable pub owned_bytes : Owned → List ℕ
owned_bytes owned = owned_fields.spell (owned_parts owned)

unfoldable pub owned_at : List ℕ → Result (Owned × List ℕ) FrameFault
owned_at bytes = (refined owned_made owned_parts IsOwned owned_fields).at bytes

abbrev pub owned_spelling : Spelling Owned
owned_spelling = record { spell = owned_bytes; at = owned_at; Fits = IsOwned }
