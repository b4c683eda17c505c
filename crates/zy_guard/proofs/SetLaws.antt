-- A list of rising numbers is read one number at a time.
use Rattle.std.proofs.Common.{◌≡◌, ◌⊎◌, ℕ, ◌+◌, ◌-◌, ◌*◌, ◌%◌, ◌^◌, ◌<◌, ◌≤◌, Bool, true, false, eqb, ltb, leb, ◌&&◌, List, [], ◌∷◌, length, take, drop, Option, Some, None, refl, sym, ap, ◌∙◌, inl, inr, arith}
use Rattle.std.specs.Prelude.{take_while}
use Rattle.std.specs.List.{slice_split}
use Rattle.std.specs.Option.{option_map}
use Rattle.std.specs.Str.Parse.{digits_value}
use Rattle.std.proofs.Math.Pow.{pow_mono}
use Rattle.std.proofs.lemmas.Bool.{cases_Bool, and_parts, lt-ltb, le-leb, ltb-true, leb-true}
use Rattle.std.proofs.lemmas.Grind.{pow_more}
use Rattle.std.proofs.lemmas.Nat.{one_shl}
use Rattle.std.proofs.lemmas.List.{take_at, take_rest}
use Rattle.std.proofs.lemmas.List.Sums.{take_while-cons}
use Rattle.zy_tuple.specs.Reading.{is_numeral}
use Rattle.zy_tuple.proofs.NumberLaws.{take_while_parts}
use Rattle.zy_guard.specs.Lines.{in_number, rising}

abbrev pub parts_of : List ℕ → List (List ℕ)
parts_of text = slice_split (λ (c : ℕ). eqb c 44) text

-- what stands behind a number: nothing, or a comma and further parts
abbrev pub parts_behind : List ℕ → List (List ℕ)
parts_behind [] = []
parts_behind (c ∷ others) = parts_of others

pub first_part : (text : List ℕ) → parts_of text ≡ take_while in_number text ∷ parts_behind (drop (length (take_while in_number text)) text)
first_part [] = refl
first_part (c ∷ text) =
    let front = take_while-cons in_number c text in
    elim (cases_Bool (eqb c 44)) [
      | inl comma ↦
          let none : take_while in_number (c ∷ text) ≡ [] = front ∙ rw comma refl in
          rw (none, comma) refl
      | inr other ↦
          let more : take_while in_number (c ∷ text) ≡ c ∷ take_while in_number text = front ∙ rw other refl in
          rw (more, other, first_part text) refl
    ]

abbrev pub with_set : ℕ → Option ℕ → Option ℕ
with_set set read = option_map (λ (more : ℕ). set + more) read

with_none : (read : Option ℕ) → with_set 0 read ≡ read
with_none None = refl
with_none (Some set) = ap Some (omega arith)

with_both : (set bit : ℕ) (read : Option ℕ) → with_set set (with_set bit read) ≡ with_set (set + bit) read
with_both set bit None = refl
with_both set bit (Some more) = ap Some (omega arith)

rising_one : (least : ℕ) (digits : List ℕ) (others : List (List ℕ)) → is_numeral digits ≡ true → least ≤ digits_value 10 digits → digits_value 10 digits < 64
    → rising least (digits ∷ others) ≡ with_set (2 ^ digits_value 10 digits) (rising (digits_value 10 digits + 1) others)
rising_one least digits others numeral low high =
    rw (numeral, le-leb least (digits_value 10 digits) low, lt-ltb (digits_value 10 digits) 64 high) refl

-- so far the numbers are these, and the next one is at least this
pub record IsRisen (text : List ℕ) (steps set least : ℕ) (rest : List ℕ) : Type 0 where
  pub so_far : with_set set (rising least (parts_of rest)) ≡ rising 0 (parts_of text)
  pub small : set < 2 ^ least
  pub below : least ≤ 64
  pub many : steps ≤ least

pub risen_start : (text : List ℕ) → IsRisen text 0 0 0 text
risen_start text = record { so_far = with_none (rising 0 (parts_of text)); small = omega arith; below = omega arith; many = omega arith }

-- the bit of one more number has room
pub bit_fits : (set least n : ℕ) → set < 2 ^ least → least ≤ n → n < 64 → (set + 2 ^ n < 2 ^ (n + 1)) × (set + 2 ^ n < 2 ^ 64)
bit_fits set least n small low high =
    let one = pow_mono {i = least} {j = n} low in
    let two = pow_mono {i = n + 1} {j = 64} (omega (arith, high)) in
    let both = pow_more 2 n in
    (omega (arith, small, one, both), omega (arith, small, one, both, two))

-- a number is read, and then what stands behind it
one_read : (least : ℕ) (rest : List ℕ) → is_numeral (take_while in_number rest) ≡ true → least ≤ digits_value 10 (take_while in_number rest) → digits_value 10 (take_while in_number rest) < 64
    → rising least (parts_of rest) ≡ with_set (2 ^ digits_value 10 (take_while in_number rest)) (rising (digits_value 10 (take_while in_number rest) + 1) (parts_behind (drop (length (take_while in_number rest)) rest)))
one_read least rest numeral low high = ap (rising least) (first_part rest) ∙ rising_one least (take_while in_number rest) (parts_behind (drop (length (take_while in_number rest)) rest)) numeral low high

first_of_some : (bytes : List ℕ) → 1 ≤ length bytes → (c : ℕ) × (bytes ≡ c ∷ drop 1 bytes)
first_of_some [] some = absurd (omega (arith, some))
first_of_some (c ∷ bytes) some = (c, refl)

none_left : (bytes : List ℕ) → length bytes < 1 → bytes ≡ []
none_left [] none = refl
none_left (c ∷ bytes) none = absurd (omega (arith, none))

-- a number and what stands behind it, as a line is cut
pub number_front : (rest digits : List ℕ) (len : ℕ) → len ≡ length (take_while in_number rest) → digits ≡ take len rest → digits ≡ take_while in_number rest
number_front rest digits len is cut =
    let front = take_while in_number rest in
    cut ∙ ap (λ (n : ℕ). take n rest) is ∙ ap (take (length front)) (take_while_parts in_number rest) ∙ take_at front (drop (length front) rest) (length front) refl

pub number_back : (rest behind : List ℕ) (len : ℕ) → len ≡ length (take_while in_number rest) → behind ≡ drop len rest → behind ≡ drop (length (take_while in_number rest)) rest
number_back rest behind len is cut = cut ∙ ap (λ (n : ℕ). drop n rest) is

module _ (text : List ℕ) (steps set least : ℕ) (rest digits behind : List ℕ) (n : ℕ) (risen : IsRisen text steps set least rest)
    (front : digits ≡ take_while in_number rest) (back : behind ≡ drop (length (take_while in_number rest)) rest)
    (numeral : is_numeral digits ≡ true) (value : n ≡ digits_value 10 digits) (low : least ≤ n) (high : n < 64) where
  step_read : with_set (set + 2 ^ n) (rising (n + 1) (parts_behind behind)) ≡ rising 0 (parts_of text)
  step_read =
      let is : n ≡ digits_value 10 (take_while in_number rest) = value ∙ ap (digits_value 10) front in
      let one = one_read least rest (ap is_numeral (sym front) ∙ numeral) (omega (arith, is, low)) (omega (arith, is, high)) in
      rw (is, back) (sym (with_both set (2 ^ digits_value 10 (take_while in_number rest)) _) ∙ ap (with_set set) (sym one) ∙ risen.so_far)

  pub risen_on : (c : ℕ) (others : List ℕ) → behind ≡ c ∷ others → IsRisen text (steps + 1) (set + 2 ^ n) (n + 1) others
  risen_on c others is =
      record {
        so_far = rw is at step_read;
        small = (bit_fits set least n risen.small low high).0;
        below = omega (arith, high);
        many = omega (arith, risen.many, low);
      }

  pub risen_ends : behind ≡ [] → Some (set + 2 ^ n) ≡ rising 0 (parts_of text)
  risen_ends is =
      let last : with_set (set + 2 ^ n) (Some 0) ≡ rising 0 (parts_of text) = rw is at step_read in
      ap Some (omega arith) ∙ last

  pub risen_next : 1 ≤ length behind → IsRisen text (steps + 1) (set + (1 * 2 ^ n) % 18446744073709551616) (n + 1) (take (length behind - 1) (drop 1 behind))
  risen_next some = let first = first_of_some behind some in rw (one_shl n 64 high, take_rest behind 1) (risen_on first.0 (drop 1 behind) first.1)

  pub risen_last : length behind < 1 → Some (set + (1 * 2 ^ n) % 18446744073709551616) ≡ rising 0 (parts_of text)
  risen_last none = rw (one_shl n 64 high) (risen_ends (none_left behind none))

-- ---- what is no number that rises

rising_stops : (least : ℕ) (digits : List ℕ) (others : List (List ℕ)) → (is_numeral digits && (leb least (digits_value 10 digits) && ltb (digits_value 10 digits) 64)) ≡ false → rising least (digits ∷ others) ≡ None
rising_stops least digits others stops = rw stops refl

pub risen_fails : (text : List ℕ) (steps set least : ℕ) (rest digits : List ℕ) → IsRisen text steps set least rest → digits ≡ take_while in_number rest
    → (is_numeral digits && (leb least (digits_value 10 digits) && ltb (digits_value 10 digits) 64)) ≡ false → None ≡ rising 0 (parts_of text)
risen_fails text steps set least rest digits risen front test =
    let stops : rising least (parts_of rest) ≡ None = ap (rising least) (first_part rest) ∙ rising_stops least (take_while in_number rest) (parts_behind (drop (length (take_while in_number rest)) rest)) (rw front at test) in
    ap (with_set set) (sym stops) ∙ risen.so_far

and_false : (a b : Bool) → (a ≡ true → b ≡ true → ⊥) → (a && b) ≡ false
and_false true true never = absurd (never refl refl)
and_false true false never = refl
and_false false b never = refl

pub no_number : (least : ℕ) (digits : List ℕ) → (is_numeral digits ≡ true → least ≤ digits_value 10 digits → digits_value 10 digits < 64 → ⊥)
    → (is_numeral digits && (leb least (digits_value 10 digits) && ltb (digits_value 10 digits) 64)) ≡ false
no_number least digits never =
    and_false (is_numeral digits) (leb least (digits_value 10 digits) && ltb (digits_value 10 digits) 64)
    (λ numeral both. let parts = and_parts (leb least (digits_value 10 digits)) (ltb (digits_value 10 digits) 64) both in
    never numeral (leb-true least (digits_value 10 digits) parts.0) (ltb-true (digits_value 10 digits) 64 parts.1))

-- 64 numbers are all that rise below 64
pub risen_full : (text : List ℕ) (steps set least : ℕ) (rest : List ℕ) → IsRisen text steps set least rest → 64 ≤ steps → None ≡ rising 0 (parts_of text)
risen_full text steps set least rest risen full =
    risen_fails text steps set least rest (take_while in_number rest) risen refl (no_number least (take_while in_number rest) (λ numeral low high. omega (arith, low, high, full, risen.many)))

pub out_of_range : (client least value : ℕ) → (client < least) ⊎ ((least ≤ client) × (64 ≤ client)) → client ≡ value → least ≤ value → value < 64 → ⊥
out_of_range client least value (inl below) is low high = omega (arith, below, is, low)
out_of_range client least value (inr above) is low high = omega (arith, above.1, is, high)
