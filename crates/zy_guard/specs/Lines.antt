-- Lines of guard scripts, read from the left, and the texts of replies. The rule of the first part that can't be read is 8
-- for the client, 2 for a missing part, another operation's word, a separator, a bracket or the start of a field, and 4 for
-- a set; the others are those of the tuple space.
use Rattle.std.specs.Prelude.{ℕ, ◌+◌, ◌-◌, ◌^◌, ◌==◌, nat_lt, nat_le, Bool, not, ◌&&◌, if◌then◌else◌, List, [], ◌∷◌, ◌++◌, length, take, drop, slice_index, take_while, codes, Option, Some, None, Result, Ok, Err}
use Rattle.std.specs.Fmt.{decimal}
use Rattle.std.specs.List.{slice_split}
use Rattle.std.specs.Option.{option_map}
use Rattle.std.specs.Str.{bytes_eq}
use Rattle.std.specs.Str.Parse.{digits_value}
use Rattle.hex.specs.Hex.{encode_lower}
use Rattle.zy_base.specs.declared.ids.ClientId.{ClientId}
use Rattle.zy_base.specs.declared.ids.Party.{Party}
use Rattle.zy_base.specs.declared.ids.Party.TheVariants.{Replica, Client}
use Rattle.zy_tuple.specs.Parties.{party_of}
use Rattle.zy_tuple.specs.Reading.{◌>>=◌, in_word, is_numeral, space_at, tuple_part, template_part, finished}
use Rattle.zy_tuple.specs.Texts.{reply_text}
use Rattle.zy_tuple.specs.declared.values.Field.{Field}
use Rattle.zy_tuple.specs.declared.values.Slot.{Slot}
use Rattle.zy_guard.specs.declared.values.Access.{Access}
use Rattle.zy_guard.specs.declared.values.ClientSet.{ClientSet}
use Rattle.zy_guard.specs.declared.values.GuardOp.{GuardOp}
use Rattle.zy_guard.specs.declared.values.GuardOp.TheVariants.{Out, Rdp, Inp, Cas}
use Rattle.zy_guard.specs.declared.values.GuardReply.{GuardReply}
use Rattle.zy_guard.specs.declared.values.GuardReply.TheVariants.{Plain, Denied}
use Rattle.zy_guard.specs.GuardedSpace.{rule_of}
use Rattle.zy_guard.specs.Bytes.{op_bytes}

-- ---- sets

-- what stands before a comma (44)
abbrev pub in_number : ℕ → Bool
in_number c = not (c == 44)

-- numbers below 64 that rise, from this one on
abbrev pub rising : ℕ → List (List ℕ) → Option ℕ
rising least [] = Some 0
rising least (digits ∷ others) =
    let n = digits_value 10 digits in
    if is_numeral digits && (nat_le least n && nat_lt n 64)
    then option_map (λ (set : ℕ). 2 ^ n + set) (rising (n + 1) others)
    else None

-- `all`, `none`, or numbers that rise with a comma between two
abbrev pub set_of : List ℕ → Option ℕ
set_of word =
    if bytes_eq word (codes "all")
    then Some (2 ^ 64 - 1)
    else (if bytes_eq word (codes "none") then Some 0 else rising 0 (slice_split (λ (c : ℕ). c == 44) word))

abbrev pub set_named : Option ℕ → List ℕ → Result (ClientSet × List ℕ) ℕ
set_named None rest = Err 4
set_named (Some set) rest = Ok (record { 0 = set }, rest)

abbrev pub set_word : List ℕ → List ℕ → Result (ClientSet × List ℕ) ℕ
set_word [] rest = Err 2
set_word (c ∷ word) rest = set_named (set_of (c ∷ word)) rest

-- a set behind a space
unfoldable pub set_part : List ℕ → Result (ClientSet × List ℕ) ℕ
set_part line = space_at line >>= λ rest. set_word (take_while in_word rest) (drop (length (take_while in_word rest)) rest)

-- the readers and the takers
unfoldable pub access_part : List ℕ → Result (Access × List ℕ) ℕ
access_part line =
    set_part line >>= λ readers. set_part readers.1 >>= λ takers. Ok (record { readers = readers.0; takers = takers.0 }, takers.1)

-- ---- operations

-- a tuple behind a space that ends the line, and a template likewise
unfoldable pub last_tuple : List ℕ → Result (List Field) ℕ
last_tuple line = tuple_part line >>= λ tuple. finished tuple.0 tuple.1

unfoldable pub last_template : List ℕ → Result (List Slot) ℕ
last_template line = template_part line >>= λ template. finished template.0 template.1

abbrev pub read_or_none : {A : Type 0} → Result A ℕ → Option A
read_or_none (Ok x) = Some x
read_or_none (Err rule) = None

-- the template that all of a text is
abbrev pub whole_template : List ℕ → Option (List Slot)
whole_template text = read_or_none (last_template text)

-- the one that ends with a bracket (41) at this place
abbrev pub template_up_to : List ℕ → ℕ → Option (List Slot)
template_up_to line place = if slice_index line place == 41 then whole_template (take (place + 1) line) else None

abbrev pub out_op : List ℕ → Result GuardOp ℕ
out_op rest = access_part rest >>= λ access. last_tuple access.1 >>= λ tuple. Ok (Out access.0 tuple)

abbrev pub cas_op : List ℕ → Result GuardOp ℕ
cas_op rest = template_part rest >>= λ template. access_part template.1 >>= λ access. last_tuple access.1 >>= λ tuple. Ok (Cas template.0 access.0 tuple)

unfoldable pub worded_op : List ℕ → List ℕ → Result GuardOp ℕ
worded_op word rest =
    if bytes_eq word (codes "out")
    then out_op rest
    else (if bytes_eq word (codes "rdp")
    then (last_template rest >>= λ template. Ok (Rdp template))
    else (if bytes_eq word (codes "inp")
    then (last_template rest >>= λ template. Ok (Inp template))
    else (if bytes_eq word (codes "cas") then cas_op rest else Err 2)))

-- the operation behind a space
unfoldable pub op_part : List ℕ → Result GuardOp ℕ
op_part line = space_at line >>= λ rest. worded_op (take_while in_word rest) (drop (length (take_while in_word rest)) rest)

abbrev pub client_named : Option Party → Result ClientId ℕ
client_named None = Err 8
client_named (Some (Replica id)) = Err 8
client_named (Some (Client id)) = Ok id

-- the client and the operation that a line spells, or its first fault
unfoldable pub line_read : List ℕ → Result (ClientId × GuardOp) ℕ
line_read line =
    client_named (party_of (take_while in_word line)) >>= λ client. op_part (drop (length (take_while in_word line)) line) >>= λ op. Ok (client, op)

-- the same, with the operation's bytes
abbrev pub line_bytes : List ℕ → Result (ClientId × List ℕ) ℕ
line_bytes line = line_read line >>= λ read. Ok (read.0, op_bytes read.1)

-- ---- replies

abbrev pub guard_reply_text : GuardReply → List ℕ
guard_reply_text (Plain reply) = reply_text reply
guard_reply_text (Denied denial) = codes "denied " ++ decimal (rule_of denial)

abbrev pub raw_text : List ℕ → List ℕ
raw_text bytes = codes "raw " ++ encode_lower bytes

-- the text of bytes that spell no reply of the tuple space
abbrev pub other_text : List ℕ → List ℕ
other_text [] = raw_text []
other_text (kind ∷ []) = raw_text (kind ∷ [])
other_text (kind ∷ rule ∷ []) = if kind == 7 && (nat_le 1 rule && nat_le rule 4) then codes "denied " ++ decimal rule else raw_text (kind ∷ rule ∷ [])
other_text (kind ∷ rule ∷ c ∷ bytes) = raw_text (kind ∷ rule ∷ c ∷ bytes)
