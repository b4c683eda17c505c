-- A token is the text of the number that it spells, and the text of each number spells it.
use Rattle.std.proofs.Common.{◌≡◌, ℕ, zero, suc, ℤ, pos, negsuc, neg_ℤ, ◌+◌, ◌^◌, ◌<◌, ◌≤◌, Bool, true, false, cond, not, eqb, List, [], ◌∷◌, ◌++◌, length, get_or, drop, Option, Some, None, Ok, FitsSigned, w64, refl, sym, ap, subst, ◌∙◌, inl, inr, arith}
use Rattle.std.specs.Prelude.{◌&&◌, ◌||◌, nat_lt, nat_le, take_while}
use Rattle.std.specs.Fmt.{decimal, signed_decimal}
use Rattle.std.specs.Str.{all_ascii_digits}
use Rattle.std.specs.Str.Parse.{digits_value}
use Rattle.std.specs.Char.{is_ascii_digit}
use Rattle.std.proofs.lemmas.Bool.{eqb-true, ltb-true, leb-true, lt-ltb, le-leb}
use Rattle.std.proofs.lemmas.Bool.Decides.{nat_tests}
use Rattle.std.proofs.lemmas.Fmt.{digits_decimal, digits_value-decimal, decimal-digits_value, decimal_digit, first_decimal, decimal_nonempty}
use Rattle.zy_tuple.specs.declared.values.Field.{Field}
use Rattle.zy_tuple.specs.declared.values.Field.TheVariants.{Int}
use Rattle.std.specs.List.{AllByRecursion, prefix_len}
use Rattle.std.proofs.lemmas.List.{take-append-drop, drop_at}
use Rattle.std.proofs.lemmas.List.Folds.{length-prefix_len}
use Rattle.zy_tuple.specs.Texts.{field_text}
use Rattle.zy_tuple.specs.Values.{IsField}
use Rattle.zy_tuple.specs.Reading.{in_token, is_numeral, int_of, int_token, int_at}
use Rattle.zy_tuple.proofs.Numerals.{own}
use Rattle.zy_tuple.proofs.Results.{both, chosen, and_true, some_chosen, ok_is, some_is}

-- ---- numerals

no_zero_first : (d k : ℕ) → (d ≡ 48 → suc k ≡ 1) → (not (eqb d 48) || eqb k 0) ≡ true
no_zero_first d k plain = grind (arith, nat_tests)

-- digits, and no zero in front of others
pub record IsNumeral (ds : List ℕ) : Type 0 where
  pub digits : all_ascii_digits ds ≡ true
  pub some : 0 < length ds
  pub plain : get_or ds 0 0 ≡ 48 → length ds ≡ 1

pub numeral_is : (ds : List ℕ) → is_numeral ds ≡ true → IsNumeral ds
numeral_is [] e = absurd cc
numeral_is (d ∷ ds) e =
    let parts = both (all_ascii_digits (d ∷ ds)) (not (eqb d 48) || eqb (length ds) 0) e in
    record { digits = parts.0; some = omega arith; plain = λ zero_first. grind (arith, nat_tests, parts.1) }

pub is_numeral_from : (ds : List ℕ) → IsNumeral ds → is_numeral ds ≡ true
is_numeral_from [] n = absurd (omega (arith, n.some))
is_numeral_from (d ∷ ds) n = and_true _ _ n.digits (no_zero_first d (length ds) n.plain)

pub decimal_is : (m : ℕ) → m < 2 ^ 64 → IsNumeral (decimal m)
decimal_is zero lt = record { digits = digits_decimal own 0 lt; some = decimal_nonempty 0 lt; plain = λ _. ap length (decimal_digit 0 (omega arith)) }
decimal_is (suc m) lt = record { digits = digits_decimal own (suc m) lt; some = decimal_nonempty (suc m) lt; plain = λ zero_first. absurd (omega (arith, first_decimal (suc m) (omega arith) lt)) }

pub decimal_of : (ds : List ℕ) → IsNumeral ds → digits_value 10 ds < 2 ^ 64 → decimal (digits_value 10 ds) ≡ ds
decimal_of ds n lt = decimal-digits_value own ds n.digits n.some n.plain lt

-- ---- signed numbers

minus_text : (v : ℕ) → 0 < v → v ≤ 2 ^ 63 → (45 ∷ decimal v ≡ signed_decimal (neg_ℤ (pos v))) × FitsSigned w64 (neg_ℤ (pos v))
minus_text zero above le = absurd (omega arith)
minus_text (suc v) above le = (refl, omega arith)

minus_takes : (cs : List ℕ) (n : ℤ) → cond (is_numeral cs && nat_lt 0 (digits_value 10 cs) && nat_le (digits_value 10 cs) (2 ^ 63)) (Some (neg_ℤ (pos (digits_value 10 cs)))) None ≡ Some n → (45 ∷ cs ≡ signed_decimal n) × FitsSigned w64 n
minus_takes cs n e =
    let told = some_chosen (is_numeral cs && nat_lt 0 (digits_value 10 cs) && nat_le (digits_value 10 cs) (2 ^ 63)) (Some (neg_ℤ (pos (digits_value 10 cs)))) n e in
    let ends = both (is_numeral cs && nat_lt 0 (digits_value 10 cs)) (nat_le (digits_value 10 cs) (2 ^ 63)) told.0 in
    let starts = both (is_numeral cs) (nat_lt 0 (digits_value 10 cs)) ends.0 in
    let above : 0 < digits_value 10 cs = ltb-true _ _ starts.1 in
    let le : digits_value 10 cs ≤ 2 ^ 63 = leb-true _ _ ends.1 in
    let text = minus_text (digits_value 10 cs) above le in
    let digits = decimal_of cs (numeral_is cs starts.0) (omega arith) in
    subst (λ (k : ℤ). (45 ∷ cs ≡ signed_decimal k) × FitsSigned w64 k) (some_is _ _ told.1) (ap (λ (ds : List ℕ). 45 ∷ ds) (sym digits) ∙ text.0, text.1)

plain_takes : (ts : List ℕ) (n : ℤ) → cond (is_numeral ts && nat_lt (digits_value 10 ts) (2 ^ 63)) (Some (pos (digits_value 10 ts))) None ≡ Some n → (ts ≡ signed_decimal n) × FitsSigned w64 n
plain_takes ts n e =
    let told = some_chosen (is_numeral ts && nat_lt (digits_value 10 ts) (2 ^ 63)) (Some (pos (digits_value 10 ts))) n e in
    let parts = both (is_numeral ts) (nat_lt (digits_value 10 ts) (2 ^ 63)) told.0 in
    let below : digits_value 10 ts < 2 ^ 63 = ltb-true _ _ parts.1 in
    let digits = decimal_of ts (numeral_is ts parts.0) (omega arith) in
    let fits : FitsSigned w64 (pos (digits_value 10 ts)) = omega arith in
    subst (λ (k : ℤ). (ts ≡ signed_decimal k) × FitsSigned w64 k) (some_is _ _ told.1) (sym digits, fits)

pub int_of_takes : (token : List ℕ) (n : ℤ) → int_of token ≡ Some n → (token ≡ signed_decimal n) × FitsSigned w64 n
int_of_takes [] n e = absurd cc
int_of_takes (c ∷ cs) n e =
    elim (chosen (eqb c 45) (cond (is_numeral cs && nat_lt 0 (digits_value 10 cs) && nat_le (digits_value 10 cs) (2 ^ 63)) (Some (neg_ℤ (pos (digits_value 10 cs)))) None) (cond (is_numeral (c ∷ cs) && nat_lt (digits_value 10 (c ∷ cs)) (2 ^ 63)) (Some (pos (digits_value 10 (c ∷ cs)))) None) (Some n) e) [
      | inl (minus, is) ↦ let c-is : c ≡ 45 = eqb-true c 45 minus in let t = minus_takes cs n is in (ap (λ (d : ℕ). d ∷ cs) c-is ∙ t.0, t.1)
      | inr (plain, is) ↦ plain_takes (c ∷ cs) n is
    ]

no_minus : (c : ℕ) → is_ascii_digit c ≡ true → eqb c 45 ≡ false
no_minus c digit = grind (arith, nat_tests)

plain_again : (ts : List ℕ) → IsNumeral ts → digits_value 10 ts < 2 ^ 63 → int_of ts ≡ Some (pos (digits_value 10 ts))
plain_again [] numeral below = absurd (omega (arith, numeral.some))
plain_again (c ∷ cs) numeral below =
    let digit = (both (is_ascii_digit c) (all_ascii_digits cs) numeral.digits).0 in
    rw (no_minus c digit, is_numeral_from (c ∷ cs) numeral, lt-ltb _ _ below) refl

minus_again : (cs : List ℕ) → IsNumeral cs → 0 < digits_value 10 cs → digits_value 10 cs ≤ 2 ^ 63 → int_of (45 ∷ cs) ≡ Some (neg_ℤ (pos (digits_value 10 cs)))
minus_again cs numeral above le = rw (is_numeral_from cs numeral, lt-ltb _ _ above, le-leb _ _ le) refl

pub int_of_again : (n : ℤ) → FitsSigned w64 n → int_of (signed_decimal n) ≡ Some n
int_of_again (pos n) fits =
    let below : n < 2 ^ 63 = omega arith in
    let value = digits_value-decimal own n (omega arith) in
    plain_again (decimal n) (decimal_is n (omega arith)) (omega (arith, value)) ∙ ap (λ (k : ℕ). Some (pos k)) value
int_of_again (negsuc n) fits =
    let le : suc n ≤ 2 ^ 63 = omega arith in
    let value = digits_value-decimal own (suc n) (omega arith) in
    minus_again (decimal (suc n)) (decimal_is (suc n) (omega arith)) (omega (arith, value)) (omega (arith, value)) ∙ ap (λ (k : ℕ). Some (neg_ℤ (pos k))) value

-- ---- tokens

-- each byte passes
abbrev pub Passes : (ℕ → Bool) → List ℕ → Type 0
Passes p xs = AllByRecursion (λ c. p c ≡ true) xs

take_while_more : (p : ℕ → Bool) (x : ℕ) (xs : List ℕ) → p x ≡ true → take_while p (x ∷ xs) ≡ x ∷ take_while p xs
take_while_more p x xs pass =
    let one_more : 1 + prefix_len p xs ≡ suc (prefix_len p xs) = omega arith in
    rw (pass, one_more) refl

-- what passes, up to the first that doesn't
pub take_while_again : (p : ℕ → Bool) (xs : List ℕ) (c : ℕ) (rest : List ℕ) → Passes p xs → p c ≡ false → take_while p (xs ++ c ∷ rest) ≡ xs
take_while_again p [] c rest pass stop = rw stop refl
take_while_again p (x ∷ xs) c rest pass stop = take_while_more p x (xs ++ c ∷ rest) pass.0 ∙ ap (λ (ys : List ℕ). x ∷ ys) (take_while_again p xs c rest pass.1 stop)

pub take_while_parts : (p : ℕ → Bool) (line : List ℕ) → line ≡ take_while p line ++ drop (length (take_while p line)) line
take_while_parts p line = sym (ap (λ (n : ℕ). take_while p line ++ drop n line) (length-prefix_len p line) ∙ take-append-drop (prefix_len p line) line)

digit_in_token : (c : ℕ) → is_ascii_digit c ≡ true → in_token c ≡ true
digit_in_token c digit = grind (arith, nat_tests)

-- digits end no token
pub digits_in_token : (ds : List ℕ) → all_ascii_digits ds ≡ true → Passes in_token ds
digits_in_token [] e = tt
digits_in_token (d ∷ ds) e = let parts = both (is_ascii_digit d) (all_ascii_digits ds) e in (digit_in_token d parts.0, digits_in_token ds parts.1)

int_in_token : (n : ℤ) → FitsSigned w64 n → Passes in_token (signed_decimal n)
int_in_token (pos n) fits = digits_in_token (decimal n) (digits_decimal own n (omega arith))
int_in_token (negsuc n) fits = (refl, digits_in_token (decimal (suc n)) (digits_decimal own (suc n) (omega arith)))

int_token_takes : (token : List ℕ) (read : Option ℤ) (left : List ℕ) (field : Field) (rest : List ℕ) → int_of token ≡ read → int_token read left ≡ Ok (field, rest) → (token ++ left ≡ field_text field ++ rest) × IsField field
int_token_takes token None left field rest is e = absurd cc
int_token_takes token (Some n) left field rest is e =
    let t = int_of_takes token n is in
    let made : Field × List ℕ = (Int n, left) in
    let same : made ≡ (field, rest) = ok_is made (field, rest) e in
    let field-is : Int n ≡ field = ap (λ (x : Field × List ℕ). x.0) same in
    let rest-is : left ≡ rest = ap (λ (x : Field × List ℕ). x.1) same in
    subst (λ (f : Field). (token ++ left ≡ field_text f ++ rest) × IsField f) field-is (ap (λ (ts : List ℕ). ts ++ left) t.0 ∙ ap (λ (r : List ℕ). signed_decimal n ++ r) rest-is, t.1)

pub int_at_takes : (line : List ℕ) (field : Field) (rest : List ℕ) → int_at line ≡ Ok (field, rest) → (line ≡ field_text field ++ rest) × IsField field
unfolding int_at
int_at_takes line field rest e =
    let token = take_while in_token line in
    let t = int_token_takes token (int_of token) (drop (length token) line) field rest refl e in
    (take_while_parts in_token line ∙ t.0, t.1)

pub int_at_again : (n : ℤ) (c : ℕ) (rest : List ℕ) → FitsSigned w64 n → in_token c ≡ false → int_at (signed_decimal n ++ c ∷ rest) ≡ Ok (Int n, c ∷ rest)
unfolding int_at
int_at_again n c rest fits stop =
    let token = take_while_again in_token (signed_decimal n) c rest (int_in_token n fits) stop in
    let at : (ts : List ℕ) → ts ≡ signed_decimal n → int_token (int_of ts) (drop (length ts) (signed_decimal n ++ c ∷ rest)) ≡ Ok (Int n, c ∷ rest)
    = λ ts is. rw (is, int_of_again n fits, drop_at (signed_decimal n) (c ∷ rest) (length (signed_decimal n)) refl) refl in
    at (take_while in_token (signed_decimal n ++ c ∷ rest)) token
