-- Reading a text from the left: the value and what is left, or the rule of the first part that can't be read.
-- Rule 1 is the first word; 2 a missing part, a separator, a bracket or the start of a field; 3 a number of
-- fields that isn't 1 to 8; 4 a number; 5 a text field; 6 something after the end; 7 a wildcard in a tuple;
-- 10 a reply's text.
use Rattle.std.specs.Prelude.{◌≡◌, ℕ, zero, suc, ℤ, pos, neg_ℤ, ◌^◌, ◌==◌, nat_lt, nat_le, Bool, true, false, not, ◌&&◌, ◌||◌, if◌then◌else◌, List, [], ◌∷◌, length, take, drop, take_while, codes, Option, Some, None, Result, Ok, Err}
use Rattle.std.specs.Str.{all_ascii_digits, bytes_eq}
use Rattle.std.specs.Str.Parse.{digits_value}
use Rattle.std.specs.Char.{is_ascii_digit}
use Rattle.zy_tuple.specs.Values.{is_printable}
use Rattle.zy_tuple.specs.declared.values.Field.{Field}
use Rattle.zy_tuple.specs.declared.values.Field.TheVariants.{Int, Text}
use Rattle.zy_tuple.specs.declared.values.Slot.{Slot}
use Rattle.zy_tuple.specs.declared.values.Slot.TheVariants.{Any, Is}
use Rattle.zy_tuple.specs.declared.values.Op.{Op}
use Rattle.zy_tuple.specs.declared.values.Op.TheVariants.{Out, Rdp, Inp, Cas}
use Rattle.zy_tuple.specs.declared.values.Reply.{Reply}
use Rattle.zy_tuple.specs.declared.values.Reply.TheVariants.{Done, Got, Nothing, True, False, Full, Bad}
use Rattle.zy_tuple.specs.declared.fault.LineFault.{LineFault}
use Rattle.zy_tuple.specs.declared.fault.LineFault.TheVariants as faults

infixl 10 ◌>>=◌
abbrev pub ◌>>=◌ : {A B : Type 0} → Result A ℕ → (A → Result B ℕ) → Result B ℕ
(Ok x) >>= f = f x
(Err rule) >>= f = Err rule

-- What a function returned, seen by view, is what reading gives, unless memory ran out.
abbrev pub Fails : {Y : Type 0} → LineFault → Result Y ℕ → Type 0
Fails faults.Want read = Unit {0}
Fails (faults.Rule rule) read = read ≡ Err rule

abbrev pub Gives : {X Y : Type 0} → (X → Y) → Result X LineFault → Result Y ℕ → Type 0
Gives view (Ok x) read = read ≡ Ok (view x)
Gives view (Err e) read = Fails e read

-- ---- numbers

-- a token ends at a space or at a closing bracket
abbrev pub in_token : ℕ → Bool
in_token c = not (c == 32 || c == 41)

-- digits without a leading zero, or `0` itself
abbrev pub is_numeral : List ℕ → Bool
is_numeral [] = false
is_numeral (d ∷ ds) = all_ascii_digits (d ∷ ds) && (not (d == 48) || (length ds == 0))

-- the number of 64 bits that a token spells; `-0` spells none
abbrev pub int_of : List ℕ → Option ℤ
int_of [] = None
int_of (c ∷ cs) =
    if c == 45
    then (if is_numeral cs && nat_lt 0 (digits_value 10 cs) && nat_le (digits_value 10 cs) (2 ^ 63) then Some (neg_ℤ (pos (digits_value 10 cs))) else None)
    else (if is_numeral (c ∷ cs) && nat_lt (digits_value 10 (c ∷ cs)) (2 ^ 63) then Some (pos (digits_value 10 (c ∷ cs))) else None)

abbrev pub int_token : Option ℤ → List ℕ → Result (Field × List ℕ) ℕ
int_token None rest = Err 4
int_token (Some n) rest = Ok (Int n, rest)

unfoldable pub int_at : List ℕ → Result (Field × List ℕ) ℕ
int_at line = int_token (int_of (take_while in_token line)) (drop (length (take_while in_token line)) line)

-- ---- texts

abbrev pub prepend : ℕ → Option (List ℕ × List ℕ) → Option (List ℕ × List ℕ)
prepend c None = None
prepend c (Some read) = Some (c ∷ read.0, read.1)

-- a character of a text that stands for itself
abbrev pub is_plain : ℕ → Bool
is_plain c = is_printable c && not (c == 34) && not (c == 92)

-- the characters up to the closing quote (34), and what is left; behind a backslash (92) stands one of the two
unfoldable pub quoted : Bool → List ℕ → Option (List ℕ × List ℕ)
quoted behind_backslash [] = None
quoted true (c ∷ line) = if c == 34 || c == 92 then prepend c (quoted false line) else None
quoted false (c ∷ line) =
    if c == 34
    then Some ([], line)
    else (if c == 92 then quoted true line else (if is_printable c then prepend c (quoted false line) else None))

abbrev pub short_text : Option (List ℕ × List ℕ) → Result (Field × List ℕ) ℕ
short_text None = Err 5
short_text (Some read) = if nat_le (length read.0) 64 then Ok (Text read.0, read.1) else Err 5

-- ---- fields and slots

-- behind an opening quote a text, at a digit or a minus (45) a number; a wildcard (42) is no field
unfoldable pub field_at : List ℕ → Result (Field × List ℕ) ℕ
field_at [] = Err 2
field_at (c ∷ line) =
    if c == 34
    then short_text (quoted false line)
    else (if c == 45 || is_ascii_digit c then int_at (c ∷ line) else (if c == 42 then Err 7 else Err 2))

unfoldable pub slot_at : List ℕ → Result (Slot × List ℕ) ℕ
slot_at [] = Err 2
slot_at (c ∷ line) = if c == 42 then Ok (Any, line) else (field_at (c ∷ line) >>= λ field. Ok (Is field.0, field.1))

-- ---- fields in brackets

abbrev pub begins_field : List ℕ → Bool
begins_field [] = false
begins_field (c ∷ line) = c == 34 || c == 45 || c == 42 || is_ascii_digit c

-- after a field: whether the bracket closes, or a space and a further field follow
abbrev pub after_field : List ℕ → Result (Bool × List ℕ) ℕ
after_field [] = Err 2
after_field (c ∷ line) = if c == 41 then Ok (true, line) else (if c == 32 then Ok (false, line) else Err 2)

-- the fields up to the closing bracket, of which there may be so many
unfoldable pub fields_at : {A : Type 0} → (List ℕ → Result (A × List ℕ) ℕ) → ℕ → List ℕ → Result (List A × List ℕ) ℕ
fields_at item_at zero line = if begins_field line then Err 3 else Err 2
fields_at item_at (suc room) line = do
  first ← item_at line
  next ← after_field first.1
  if next.0 then Ok (first.0 ∷ [], next.1) else (fields_at item_at room next.1 >>= λ others. Ok (first.0 ∷ others.0, others.1))

-- an opening bracket (40)
abbrev pub open_at : List ℕ → Result (List ℕ) ℕ
open_at [] = Err 2
open_at (c ∷ line) = if c == 40 then Ok line else Err 2

abbrev pub begins_with : ℕ → List ℕ → Bool
begins_with c [] = false
begins_with c (d ∷ line) = d == c

-- one to eight in brackets
unfoldable pub list_at : {A : Type 0} → (List ℕ → Result (A × List ℕ) ℕ) → List ℕ → Result (List A × List ℕ) ℕ
list_at item_at line = do
  inside ← open_at line
  if begins_with 41 inside then Err 3 else fields_at item_at 8 inside

abbrev pub space_at : List ℕ → Result (List ℕ) ℕ
space_at [] = Err 2
space_at (c ∷ line) = if c == 32 then Ok line else Err 2

-- ---- operations

abbrev pub in_word : ℕ → Bool
in_word c = not (c == 32)

abbrev pub finished : {A : Type 0} → A → List ℕ → Result A ℕ
finished value [] = Ok value
finished value (c ∷ line) = Err 6

-- a part behind a space
unfoldable pub tuple_part : List ℕ → Result (List Field × List ℕ) ℕ
tuple_part line = space_at line >>= λ rest. list_at field_at rest

unfoldable pub template_part : List ℕ → Result (List Slot × List ℕ) ℕ
template_part line = space_at line >>= λ rest. list_at slot_at rest

-- the operation that a line spells, or its first fault
unfoldable pub op_read : List ℕ → Result Op ℕ
op_read line =
    let word = take_while in_word line in
    let rest = drop (length word) line in
    if bytes_eq word (codes "out")
    then (tuple_part rest >>= λ tuple. finished (Out tuple.0) tuple.1)
    else (if bytes_eq word (codes "rdp")
    then (template_part rest >>= λ template. finished (Rdp template.0) template.1)
    else (if bytes_eq word (codes "inp")
    then (template_part rest >>= λ template. finished (Inp template.0) template.1)
    else (if bytes_eq word (codes "cas")
    then (template_part rest >>= λ template. tuple_part template.1 >>= λ tuple. finished (Cas template.0 tuple.0) tuple.1)
    else Err 1)))

-- ---- replies

abbrev pub whole_tuple : Result (List Field × List ℕ) ℕ → Result Reply ℕ
whole_tuple (Ok tuple) = if length tuple.1 == 0 then Ok (Got tuple.0) else Err 10
whole_tuple (Err rule) = Err 10

unfoldable pub got_read : List ℕ → Result Reply ℕ
got_read text = if bytes_eq (take 6 text) (codes "tuple ") then whole_tuple (list_at field_at (drop 6 text)) else Err 10

-- the reply that a text is; anything else has rule 10
unfoldable pub reply_read : List ℕ → Result Reply ℕ
reply_read text =
    if bytes_eq text (codes "ok")
    then Ok Done
    else (if bytes_eq text (codes "none")
    then Ok Nothing
    else (if bytes_eq text (codes "true")
    then Ok True
    else (if bytes_eq text (codes "false")
    then Ok False
    else (if bytes_eq text (codes "full") then Ok Full else (if bytes_eq text (codes "bad") then Ok Bad else got_read text)))))
