-- Inner forms, which only private contracts and representations cite: the buckets of tuples. Tuples of one length whose
-- first fields are equal are in one bucket.
use Rattle.std.specs.Prelude.{ℕ, ◌+◌, ◌*◌, ◌%◌, List, [], ◌∷◌, length, Option, Some, None}
use Rattle.std.specs.List.{sum}
use Rattle.std.specs.Int.{w64, cast_unsigned}
use Rattle.zy_tuple.specs.declared.values.Field.{Field}
use Rattle.zy_tuple.specs.declared.values.Field.TheVariants.{Int, Text}
use Rattle.zy_tuple.specs.declared.values.Slot.{Slot}
use Rattle.zy_tuple.specs.declared.values.Slot.TheVariants.{Any, Is}

-- a number modulo 8, or the sum of a text's bytes modulo 8
abbrev pub residue_of : Field → ℕ
residue_of (Int n) = cast_unsigned w64 n % 8
residue_of (Text text) = sum text % 8

-- by the number of fields, up to eight, and the first field
abbrev pub bucket_of : List Field → ℕ
bucket_of [] = 0
bucket_of (field ∷ fields) = 8 * length fields + residue_of field

-- the bucket of each match, where the first slot names a field
abbrev pub wanted_bucket : List Slot → Option ℕ
wanted_bucket [] = None
wanted_bucket (Any ∷ slots) = None
wanted_bucket (Is field ∷ slots) = Some (8 * length slots + residue_of field)
