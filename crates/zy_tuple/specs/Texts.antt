-- The one text of each value: numbers in decimal, text fields in quotes, fields separated by one space.
use Rattle.std.specs.Prelude.{ℕ, ◌==◌, ◌||◌, if◌then◌else◌, List, [], ◌∷◌, ◌++◌, map, codes}
use Rattle.std.specs.Fmt.{signed_decimal}
use Rattle.std.specs.List.{flat_map}
use Rattle.zy_tuple.specs.declared.values.Field.{Field}
use Rattle.zy_tuple.specs.declared.values.Field.TheVariants.{Int, Text}
use Rattle.zy_tuple.specs.declared.values.Slot.{Slot}
use Rattle.zy_tuple.specs.declared.values.Slot.TheVariants.{Any, Is}
use Rattle.zy_tuple.specs.declared.values.Op.{Op}
use Rattle.zy_tuple.specs.declared.values.Op.TheVariants.{Out, Rdp, Inp, Cas}
use Rattle.zy_tuple.specs.declared.values.Reply.{Reply}
use Rattle.zy_tuple.specs.declared.values.Reply.TheVariants.{Done, Got, Nothing, True, False, Full, Bad}

-- a quote (34) and a backslash (92) stand behind a backslash
abbrev pub escaped : ℕ → List ℕ
escaped c = if c == 34 || c == 92 then 92 ∷ c ∷ [] else c ∷ []

abbrev pub field_text : Field → List ℕ
field_text (Int n) = signed_decimal n
field_text (Text bytes) = 34 ∷ flat_map escaped bytes ++ 34 ∷ []

abbrev pub slot_text : Slot → List ℕ
slot_text Any = 42 ∷ []
slot_text (Is field) = field_text field

abbrev pub behind_space : List ℕ → List ℕ
behind_space text = 32 ∷ text

-- texts with one space (32) between two
abbrev pub spaced : List (List ℕ) → List ℕ
spaced [] = []
spaced (text ∷ texts) = text ++ flat_map behind_space texts

-- in round brackets (40 and 41)
abbrev pub bracketed : List (List ℕ) → List ℕ
bracketed texts = 40 ∷ spaced texts ++ 41 ∷ []

abbrev pub tuple_text : List Field → List ℕ
tuple_text fields = bracketed (map field_text fields)

abbrev pub template_text : List Slot → List ℕ
template_text slots = bracketed (map slot_text slots)

abbrev pub op_text : Op → List ℕ
op_text (Out tuple) = codes "out " ++ tuple_text tuple
op_text (Rdp template) = codes "rdp " ++ template_text template
op_text (Inp template) = codes "inp " ++ template_text template
op_text (Cas template tuple) = codes "cas " ++ template_text template ++ 32 ∷ tuple_text tuple

abbrev pub reply_text : Reply → List ℕ
reply_text Done = codes "ok"
reply_text (Got tuple) = codes "tuple " ++ tuple_text tuple
reply_text Nothing = codes "none"
reply_text True = codes "true"
reply_text False = codes "false"
reply_text Full = codes "full"
reply_text Bad = codes "bad"
