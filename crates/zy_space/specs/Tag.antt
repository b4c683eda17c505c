-- Inner forms, which only private contracts cite: tags of tuples. A search passes over a tuple whose tags aren't those
-- of each match, without looking at its fields. All that is used of a tag is that equal fields have equal ones.
use Rattle.std.specs.Prelude.{ℕ, ◌+◌, ◌*◌, ◌%◌, ◌/◌, ◌^◌, List, [], ◌∷◌, Option, Some, None, length, drop, fold, map}
use Rattle.std.specs.List.{slice_get}
use Rattle.std.specs.Int.{w64, cast_unsigned, from_le_bytes}
use Rattle.std.specs.Simd.{first_chunks}
use Rattle.zy_tuple.specs.declared.values.Field.{Field}
use Rattle.zy_tuple.specs.declared.values.Field.TheVariants.{Int, Text}
use Rattle.zy_tuple.specs.declared.values.Slot.{Slot}
use Rattle.zy_tuple.specs.declared.values.Slot.TheVariants.{Any, Is}
use Rattle.zy_space.specs.declared.tagged.WantedTags.{WantedTags}
use Rattle.zy_space.specs.declared.tagged.TheConstants.{SPREAD}

-- a hash with one part more, by multiplication (Knuth, The Art of Computer Programming, section 6.4)
abbrev pub with_part : ℕ → ℕ → ℕ
with_part hash part = ((hash + part) * SPREAD) % 2 ^ 64

-- a text's parts in turn: each eight bytes are one (the least first), those that are left are one each
abbrev pub hash_of_text : List ℕ → ℕ
hash_of_text text =
    let eights = length text / 8 in
    fold with_part (fold with_part 0 (map (from_le_bytes w64) (first_chunks 8 eights text))) (drop (eights * 8) text)

-- a number is one part
abbrev pub hash_of_field : Field → ℕ
hash_of_field (Int n) = with_part 0 (cast_unsigned w64 n)
hash_of_field (Text text) = hash_of_text text

-- the eight high bits of the hash
abbrev pub tag_of_field : Field → ℕ
tag_of_field field = hash_of_field field / 2 ^ 56

-- 0 where there is no field
abbrev pub tag_of_place : Option Field → ℕ
tag_of_place None = 0
tag_of_place (Some field) = tag_of_field field

-- 0 at a wildcard, and where there is no slot
abbrev pub wanted_of_place : Option Slot → ℕ
wanted_of_place None = 0
wanted_of_place (Some Any) = 0
wanted_of_place (Some (Is field)) = tag_of_field field

-- all bits of the tag count, or none at a wildcard and where there is no slot
abbrev pub mask_of_place : Option Slot → ℕ
mask_of_place None = 0
mask_of_place (Some Any) = 0
mask_of_place (Some (Is field)) = 255

abbrev pub tag_at : List Field → ℕ → ℕ
tag_at fields place = tag_of_place (slice_get fields place)

abbrev pub wanted_at : List Slot → ℕ → ℕ
wanted_at slots place = wanted_of_place (slice_get slots place)

abbrev pub mask_at : List Slot → ℕ → ℕ
mask_at slots place = mask_of_place (slice_get slots place)

-- a tuple has up to eight fields
abbrev pub places : List ℕ
places = 0 ∷ 1 ∷ 2 ∷ 3 ∷ 4 ∷ 5 ∷ 6 ∷ 7 ∷ []

abbrev pub tags_of : List Field → List ℕ
tags_of fields = map (tag_at fields) places

abbrev pub wanted_tags : List Slot → WantedTags
wanted_tags slots = record { tags = map (wanted_at slots) places; masks = map (mask_at slots) places }
