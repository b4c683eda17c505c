-- The list of a loop over numbers, with one more.
use Rattle.std.proofs.Common.{◌≡◌, ℕ, ◌+◌, List, [], ◌∷◌, ◌++◌, map, sym, ap, ◌∙◌, arith}
use Rattle.std.specs.List.{range_with_len}
use Rattle.std.proofs.lemmas.List.FromFn.{map-range_with_len_more}

pub one_more : {X : Type 0} (f : ℕ → X) (xs ys : List X) (n : ℕ) → xs ≡ map f (range_with_len 0 n) → ys ≡ xs ++ f n ∷ [] → ys ≡ map f (range_with_len 0 (n + 1))
one_more {X} f xs ys n is more =
    let from_zero : 0 + n ≡ n = omega arith in
    more ∙ ap (λ (l : List X). l ++ f n ∷ []) is ∙ sym (map-range_with_len_more f 0 n n from_zero)
