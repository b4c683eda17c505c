-- The number of the first file with a name, and that file.
use Rattle.std.proofs.Common.{◌≡◌, ℕ, zero, suc, Bool, List, [], ◌∷◌, length, nat_lt, slice_get, is_some, unwrap_or, arith}
use Rattle.std.specs.List.{find, position, position_or_len}
use Rattle.std.proofs.lemmas.Bool.Decides.{nat_tests}
use Rattle.std.proofs.lemmas.List.Folds.{find_at}
use Rattle.std.proofs.lemmas.Option.{slice_get_past}

is_some-slice_get : {X : Type 0} (xs : List X) (n : ℕ) → is_some (slice_get xs n) ≡ nat_lt n (length xs)
is_some-slice_get [] n = grind (arith, nat_tests)
is_some-slice_get (x ∷ xs) zero = grind (arith, nat_tests)
is_some-slice_get (x ∷ xs) (suc n) = let rest = is_some-slice_get xs n in grind (arith, nat_tests, rest)

pub is_some-position : {X : Type 0} (p : X → Bool) (xs : List X) → is_some (position p xs) ≡ is_some (find p xs)
is_some-position p xs =
    let some = is_some-slice_get xs (position_or_len p xs) in
    rw (find_at p xs) (grind (arith, some))

pub slice_get-position : {X : Type 0} (p : X → Bool) (xs : List X) → slice_get xs (unwrap_or (position p xs) (length xs)) ≡ find p xs
slice_get-position p xs =
    let past = slice_get_past xs (position_or_len p xs) in
    let end = slice_get_past xs (length xs) in
    rw (find_at p xs) (grind (arith, nat_tests, past, end))

pub ruleset first_named = (is_some-position, slice_get-position)
