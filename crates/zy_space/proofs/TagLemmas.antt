-- A match has the tags that its template wants.
use Rattle.std.proofs.Common.{◌≡◌, ℕ, zero, suc, true, List, [], ◌∷◌, refl, ap, ◌∙◌}
use lib.Lanes.{zip2, fold_l}
use Rattle.std.specs.Prelude.{map, nat_eq}
use Rattle.std.specs.Int.Bits.{bit_and, bit_or, bit_xor, xor_self, and_zero_r}
use Rattle.std.specs.Cmp.Lexicographic.{bytes_decides}
use Rattle.std.proofs.lemmas.Bool.{and_parts}
use Rattle.std.proofs.lemmas.Bool.Decides.{Decides-int_eq}
use Rattle.zy_tuple.specs.declared.values.Field.{Field}
use Rattle.zy_tuple.specs.declared.values.Field.TheVariants.{Int, Text}
use Rattle.zy_tuple.specs.declared.values.Slot.{Slot}
use Rattle.zy_tuple.specs.declared.values.Slot.TheVariants.{Any, Is}
use Rattle.zy_tuple.specs.Values.{is_same_field, fits_slot, matches}
use Rattle.zy_space.specs.declared.tagged.WantedTags.{WantedTags}
use Rattle.zy_space.specs.Tag.{tag_of_field, tag_at, wanted_at, mask_at, places, tags_of, wanted_tags}

pub same_field : (wanted field : Field) → is_same_field wanted field ≡ true → wanted ≡ field
same_field (Int m) (Int n) same = ap Int ((Decides-int_eq m n).0 same)
same_field (Int m) (Text b) same = absurd (cc)
same_field (Text a) (Int n) same = absurd (cc)
same_field (Text a) (Text b) same = ap Text ((bytes_decides a b).0 same)

-- where all bits count, the tag is the one wanted
same_at : (template : List Slot) (tuple : List Field) (place : ℕ) → matches template tuple ≡ true → bit_and (bit_xor (tag_at tuple place) (wanted_at template place)) (mask_at template place) ≡ 0
same_at [] tuple place match = and_zero_r _
same_at (Any ∷ slots) fields zero match = and_zero_r _
same_at (Is wanted ∷ slots) [] zero match = absurd (cc)
same_at (Is wanted ∷ slots) (field ∷ fields) zero match =
    ap (λ (f : Field). bit_and (bit_xor (tag_of_field field) (tag_of_field f)) 255) (same_field wanted field (and_parts _ _ match).0) ∙ ap (λ (n : ℕ). bit_and n 255) (xor_self (tag_of_field field))
same_at (slot ∷ slots) [] (suc place) match = absurd (cc)
same_at (slot ∷ slots) (field ∷ fields) (suc place) match = same_at slots fields place (and_parts (fits_slot slot field) (matches slots fields) match).1

-- the bits that aren't as wanted, of those that count
abbrev pub differences : List ℕ → List ℕ → List ℕ → List ℕ
differences tags wanted masks = zip2 bit_and (zip2 bit_xor tags wanted) masks

no_differences : (template : List Slot) (tuple : List Field) (at : List ℕ) → matches template tuple ≡ true
    → fold_l bit_or 0 (differences (map (tag_at tuple) at) (map (wanted_at template) at) (map (mask_at template) at)) ≡ 0
no_differences template tuple [] match = refl
no_differences template tuple (place ∷ others) match = rw (same_at template tuple place match) (no_differences template tuple others match)

-- none in the tags of a match
pub match_is_same : (template : List Slot) (tuple : List Field) (tags : List ℕ) (wanted : WantedTags) → tags ≡ tags_of tuple → wanted ≡ wanted_tags template → matches template tuple ≡ true
    → nat_eq (fold_l bit_or 0 (differences tags wanted.tags wanted.masks)) 0 ≡ true
match_is_same template tuple tags wanted is_tags is_wanted match =
    rw is_tags (rw is_wanted (ap (λ (n : ℕ). nat_eq n 0) (no_differences template tuple places match)))
