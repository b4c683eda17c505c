-- What tuples, templates, operations and replies may be, and when a template matches (DepSpace, section 2).
use Rattle.std.specs.Prelude.{ℕ, ◌≤◌, nat_eq, nat_le, Bool, true, false, ◌&&◌, List, [], ◌∷◌, length, FitsSigned}
use Rattle.std.specs.Int.{w64}
use Rattle.std.specs.Ordering.{int_eq}
use Rattle.std.specs.List.{AllByRecursion}
use Rattle.std.specs.Cmp.Lexicographic.{pointwise}
use Rattle.zy_tuple.specs.declared.values.Field.{Field}
use Rattle.zy_tuple.specs.declared.values.Field.TheVariants.{Int, Text}
use Rattle.zy_tuple.specs.declared.values.Slot.{Slot}
use Rattle.zy_tuple.specs.declared.values.Slot.TheVariants.{Any, Is}
use Rattle.zy_tuple.specs.declared.values.Op.{Op}
use Rattle.zy_tuple.specs.declared.values.Op.TheVariants.{Out, Rdp, Inp, Cas}
use Rattle.zy_tuple.specs.declared.values.Reply.{Reply}
use Rattle.zy_tuple.specs.declared.values.Reply.TheVariants.{Done, Got, Nothing, True, False, Full, Bad}

-- a byte of a text field: from 0x20 to 0x7E
abbrev pub is_printable : ℕ → Bool
is_printable c = nat_le 32 c && nat_le c 126

abbrev pub IsPrintable : ℕ → Type 0
IsPrintable c = (32 ≤ c) × (c ≤ 126)

-- a number of 64 bits, or up to 64 printable bytes
abbrev pub IsField : Field → Type 0
IsField (Int n) = FitsSigned w64 n
IsField (Text bytes) = (length bytes ≤ 64) × AllByRecursion IsPrintable bytes

abbrev pub IsSlot : Slot → Type 0
IsSlot Any = Unit {0}
IsSlot (Is field) = IsField field

-- one to eight
abbrev pub IsFew : {A : Type 0} → List A → Type 0
IsFew xs = (1 ≤ length xs) × (length xs ≤ 8)

abbrev pub IsTuple : List Field → Type 0
IsTuple fields = IsFew fields × AllByRecursion IsField fields

abbrev pub IsTemplate : List Slot → Type 0
IsTemplate slots = IsFew slots × AllByRecursion IsSlot slots

abbrev pub IsOp : Op → Type 0
IsOp (Out tuple) = IsTuple tuple
IsOp (Rdp template) = IsTemplate template
IsOp (Inp template) = IsTemplate template
IsOp (Cas template tuple) = IsTemplate template × IsTuple tuple

abbrev pub IsReply : Reply → Type 0
IsReply Done = Unit {0}
IsReply (Got tuple) = IsTuple tuple
IsReply Nothing = Unit {0}
IsReply True = Unit {0}
IsReply False = Unit {0}
IsReply Full = Unit {0}
IsReply Bad = Unit {0}

abbrev pub is_same_field : Field → Field → Bool
is_same_field (Int m) (Int n) = int_eq m n
is_same_field (Int m) (Text b) = false
is_same_field (Text a) (Int n) = false
is_same_field (Text a) (Text b) = pointwise nat_eq a b

-- a wildcard fits each field, another slot its own field alone
abbrev pub fits_slot : Slot → Field → Bool
fits_slot Any field = true
fits_slot (Is wanted) field = is_same_field wanted field

-- as many fields as slots, and each field fits its slot
abbrev pub matches : List Slot → List Field → Bool
matches [] [] = true
matches [] (field ∷ fields) = false
matches (slot ∷ slots) [] = false
matches (slot ∷ slots) (field ∷ fields) = fits_slot slot field && matches slots fields
