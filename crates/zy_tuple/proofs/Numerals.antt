-- Digits read from the left.
use Rattle.std.proofs.Common.{◌≡◌, ℕ, zero, suc, ◌-◌, ◌<◌, Bool, true, false, List, [], ◌∷◌, length, get_or, refl, arith}
use Rattle.std.specs.Prelude.{◌&&◌}
use Rattle.std.specs.Char.{is_ascii_digit, digit_value}
use Rattle.std.specs.Int.{IsInRange}
use Rattle.std.proofs.lemmas.Bool.Decides.{nat_tests}
use Rattle.std.specs.Str.Parse.{digits_value}
use Rattle.std.proofs.lemmas.Str.{digit_value_digit}
use Rattle.std.proofs.lemmas.Str.Parse.{IsNumeralModel, numerals_by_value, tells_all_ascii_digits}
use Rattle.std.specs.Str.{all_ascii_digits}

and_false : (b : Bool) → (b && false) ≡ false
and_false b = elim b as (λ v. (v && false) ≡ false) [ true ↦ refl | false ↦ refl ]

-- one byte that is no digit is enough
pub no_digit : (ds : List ℕ) (i : ℕ) → i < length ds → is_ascii_digit (get_or ds i 0) ≡ false → all_ascii_digits ds ≡ false
no_digit [] i lt other = absurd (omega arith)
no_digit (d ∷ ds) zero lt other = rw other refl
no_digit (d ∷ ds) (suc i) lt other = rw (no_digit ds i (omega arith) other) (and_false (is_ascii_digit d))

pub own : IsNumeralModel (λ ds. all_ascii_digits ds ≡ true) (digits_value 10)
own = numerals_by_value (λ ds. all_ascii_digits ds ≡ true) tells_all_ascii_digits

pub digit_is : (c : ℕ) → is_ascii_digit c ≡ true → (digit_value c ≡ c - 48) × (digit_value c < 10)
digit_is c h =
    let range : IsInRange 48 57 c = grind (arith, nat_tests) in
    let same = digit_value_digit c range in
    (omega arith, omega arith)
