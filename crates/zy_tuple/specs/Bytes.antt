-- The one spelling of each operation and each reply in bytes, and how they are read from the left.
use Rattle.std.specs.Prelude.{◌≡◌, ℕ, zero, suc, List, ◌++◌, length, Result, Ok, Err, IsErr, if◌then◌else◌}
use Rattle.std.specs.Int.{w8, w64, cast_signed, cast_unsigned}
use Rattle.std.specs.List.{flat_map, list_all}
use Rattle.zy_base.specs.declared.frame_fault.FrameFault.{FrameFault}
use Rattle.zy_base.specs.declared.frame_fault.FrameFault.TheVariants.{Range}
use Rattle.zy_wire.specs.Spelling.{Spelling, ◌>>=◌, bytes_of, word_at, number_at, repeated_at, ended}
use Rattle.zy_wire.specs.Fields.{bytes_at}
use Rattle.zy_tuple.specs.declared.fault.OpFault.{OpFault}
use Rattle.zy_tuple.specs.declared.fault.OpFault.TheVariants as op_faults
use Rattle.zy_tuple.specs.declared.fault.ReplyFault.{ReplyFault}
use Rattle.zy_tuple.specs.declared.fault.ReplyFault.TheVariants as reply_faults
use Rattle.zy_tuple.specs.declared.values.Field.{Field}
use Rattle.zy_tuple.specs.declared.values.Field.TheVariants.{Int, Text}
use Rattle.zy_tuple.specs.declared.values.Slot.{Slot}
use Rattle.zy_tuple.specs.declared.values.Slot.TheVariants.{Any, Is}
use Rattle.zy_tuple.specs.declared.values.Op.{Op}
use Rattle.zy_tuple.specs.declared.values.Op.TheVariants.{Out, Rdp, Inp, Cas}
use Rattle.zy_tuple.specs.declared.values.Reply.{Reply}
use Rattle.zy_tuple.specs.declared.values.Reply.TheVariants.{Done, Got, Nothing, True, False, Full, Bad}
use Rattle.zy_tuple.specs.Values.{is_printable, IsField, IsSlot, IsTuple}

-- ---- spelling

abbrev pub byte : ℕ → List ℕ
byte n = bytes_of w8 n

-- 1 and a number of 64 bits in two's complement, or 2, a length and so many bytes
abbrev pub field_bytes : Field → List ℕ
field_bytes (Int n) = byte 1 ++ bytes_of w64 (cast_unsigned w64 n)
field_bytes (Text text) = byte 2 ++ (byte (length text) ++ text)

-- 0 for a wildcard, or a field
abbrev pub slot_bytes : Slot → List ℕ
slot_bytes Any = byte 0
slot_bytes (Is field) = field_bytes field

-- a count, and so many items
unfoldable pub few_bytes : {A : Type 0} → (A → List ℕ) → List A → List ℕ
few_bytes spell xs = byte (length xs) ++ flat_map spell xs

abbrev pub tuple_bytes : List Field → List ℕ
tuple_bytes fields = few_bytes field_bytes fields

abbrev pub template_bytes : List Slot → List ℕ
template_bytes slots = few_bytes slot_bytes slots

abbrev pub op_bytes : Op → List ℕ
op_bytes (Out tuple) = byte 1 ++ tuple_bytes tuple
op_bytes (Rdp template) = byte 2 ++ template_bytes template
op_bytes (Inp template) = byte 3 ++ template_bytes template
op_bytes (Cas template tuple) = byte 4 ++ (template_bytes template ++ tuple_bytes tuple)

abbrev pub reply_bytes : Reply → List ℕ
reply_bytes Done = byte 0
reply_bytes (Got tuple) = byte 1 ++ tuple_bytes tuple
reply_bytes Nothing = byte 2
reply_bytes True = byte 3
reply_bytes False = byte 4
reply_bytes Full = byte 5
reply_bytes Bad = byte 6

-- ---- reading: the value at the front and what is left, or the fault of the leftmost part that isn't spelled

unfoldable pub printable_text : List ℕ → List ℕ → Result (Field × List ℕ) FrameFault
printable_text text rest = if list_all is_printable text then Ok (Text text, rest) else Err Range

abbrev pub field_of_kind : ℕ → List ℕ → Result (Field × List ℕ) FrameFault
field_of_kind zero bytes = Err Range
field_of_kind (suc zero) bytes = word_at w64 bytes >>= λ n. Ok (Int (cast_signed w64 n.0), n.1)
field_of_kind (suc (suc zero)) bytes = bytes_at w8 64 bytes >>= λ text. printable_text text.0 text.1
field_of_kind (suc (suc (suc n))) bytes = Err Range

unfoldable pub field_at : List ℕ → Result (Field × List ℕ) FrameFault
field_at bytes = word_at w8 bytes >>= λ kind. field_of_kind kind.0 kind.1

abbrev pub slot_of_kind : ℕ → List ℕ → Result (Slot × List ℕ) FrameFault
slot_of_kind zero bytes = Ok (Any, bytes)
slot_of_kind (suc n) bytes = field_of_kind (suc n) bytes >>= λ field. Ok (Is field.0, field.1)

unfoldable pub slot_at : List ℕ → Result (Slot × List ℕ) FrameFault
slot_at bytes = word_at w8 bytes >>= λ kind. slot_of_kind kind.0 kind.1

-- what stands in a list, with its own spelling
abbrev pub item : {A : Type 0} → (A → List ℕ) → (List ℕ → Result (A × List ℕ) FrameFault) → (A → Type 0) → Spelling A
item spell at Fits = record { spell = spell; at = at; Fits = Fits }

abbrev pub field : Spelling Field
field = item field_bytes field_at IsField

abbrev pub slot : Spelling Slot
slot = item slot_bytes slot_at IsSlot

-- one to eight items behind their count
unfoldable pub few_at : {A : Type 0} → Spelling A → List ℕ → Result (List A × List ℕ) FrameFault
few_at S bytes = number_at w8 1 9 bytes >>= λ n. repeated_at S n.0 n.1

-- a tuple, as it stands among others
abbrev pub tuple_spelling : Spelling (List Field)
tuple_spelling = record { spell = tuple_bytes; at = few_at field; Fits = IsTuple }

abbrev pub op_of_kind : ℕ → List ℕ → Result (Op × List ℕ) FrameFault
op_of_kind zero bytes = Err Range
op_of_kind (suc zero) bytes = few_at field bytes >>= λ tuple. Ok (Out tuple.0, tuple.1)
op_of_kind (suc (suc zero)) bytes = few_at slot bytes >>= λ template. Ok (Rdp template.0, template.1)
op_of_kind (suc (suc (suc zero))) bytes = few_at slot bytes >>= λ template. Ok (Inp template.0, template.1)
op_of_kind (suc (suc (suc (suc zero)))) bytes = few_at slot bytes >>= λ template. few_at field template.1 >>= λ tuple. Ok (Cas template.0 tuple.0, tuple.1)
op_of_kind (suc (suc (suc (suc (suc n))))) bytes = Err Range

unfoldable pub op_at : List ℕ → Result (Op × List ℕ) FrameFault
op_at bytes = word_at w8 bytes >>= λ kind. op_of_kind kind.0 kind.1

abbrev pub reply_of_kind : ℕ → List ℕ → Result (Reply × List ℕ) FrameFault
reply_of_kind zero bytes = Ok (Done, bytes)
reply_of_kind (suc zero) bytes = few_at field bytes >>= λ tuple. Ok (Got tuple.0, tuple.1)
reply_of_kind (suc (suc zero)) bytes = Ok (Nothing, bytes)
reply_of_kind (suc (suc (suc zero))) bytes = Ok (True, bytes)
reply_of_kind (suc (suc (suc (suc zero)))) bytes = Ok (False, bytes)
reply_of_kind (suc (suc (suc (suc (suc zero))))) bytes = Ok (Full, bytes)
reply_of_kind (suc (suc (suc (suc (suc (suc zero)))))) bytes = Ok (Bad, bytes)
reply_of_kind (suc (suc (suc (suc (suc (suc (suc n))))))) bytes = Err Range

unfoldable pub reply_at : List ℕ → Result (Reply × List ℕ) FrameFault
reply_at bytes = word_at w8 bytes >>= λ kind. reply_of_kind kind.0 kind.1

-- all of the bytes
unfoldable pub op_in : List ℕ → Result Op FrameFault
op_in bytes = op_at bytes >>= λ op. ended op.0 op.1

unfoldable pub reply_in : List ℕ → Result Reply FrameFault
reply_in bytes = reply_at bytes >>= λ reply. ended reply.0 reply.1

-- ---- what a function returned, seen by view, is what reading gives, unless memory ran out

abbrev pub Fails : {A : Type 0} → OpFault → Result A FrameFault → Type 0
Fails op_faults.NotOp read = IsErr read
Fails op_faults.Want read = Unit {0}

abbrev pub ReadsOp : {X A : Type 0} → (X → A) → Result X OpFault → Result A FrameFault → Type 0
ReadsOp view (Ok x) read = read ≡ Ok (view x)
ReadsOp view (Err e) read = Fails e read

abbrev pub ReadsReply : Result Reply ReplyFault → Result Reply FrameFault → Type 0
ReadsReply (Ok reply) read = read ≡ Ok reply
ReadsReply (Err reply_faults.NotReply) read = IsErr read
ReadsReply (Err reply_faults.Want) read = Unit {0}
