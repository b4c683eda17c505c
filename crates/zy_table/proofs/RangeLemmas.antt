-- Numbers in a row.
use Rattle.std.proofs.Common.{◌≡◌, ◌+◌, ◌∷◌, [], ◌++◌, ℕ, zero, suc, List, refl, ap, ◌∙◌, add-zero, arith}
use Rattle.std.specs.List.{range_with_len}

-- one number more stands at the end
range_from : (a n : ℕ) → range_with_len a (suc n) ≡ range_with_len a n ++ (a + n) ∷ []
range_from a zero = rw add-zero refl
range_from a (suc n) =
    let shifted : a + 1 + n ≡ a + suc n = omega arith in
    ap (λ (xs : List ℕ). a ∷ xs) (range_from (a + 1) n ∙ ap (λ (k : ℕ). range_with_len (a + 1) n ++ k ∷ []) shifted)

pub range_snoc : (n : ℕ) → range_with_len 0 (suc n) ≡ range_with_len 0 n ++ n ∷ []
range_snoc n =
    let zero_first : 0 + n ≡ n = omega arith in
    range_from 0 n ∙ ap (λ (k : ℕ). range_with_len 0 n ++ k ∷ []) zero_first
