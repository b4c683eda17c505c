-- The orders in the first slots of a list, one slot on.
use Rattle.std.proofs.Common.{◌≡◌, ◌+◌, ◌-◌, ◌≤◌, ◌++◌, ◌∷◌, [], ℕ, zero, suc, List, take, drop, slice_index_or, Option, Some, None, refl, ap, ◌∙◌, arith}
use Rattle.zy_frames.specs.declared.frame.OrderFrame.{OrderFrame}
use Rattle.zy_admit.specs.Orders.{filled}

filled_next : (xs : List (Option OrderFrame)) (k : ℕ) → filled (take (suc k) xs) ≡ filled (take k xs) ++ filled (slice_index_or xs k None ∷ [])
filled_next [] zero = refl
filled_next [] (suc k) = refl
filled_next (None ∷ xs) zero = refl
filled_next (Some x ∷ xs) zero = refl
filled_next (None ∷ xs) (suc k) = filled_next xs k
filled_next (Some x ∷ xs) (suc k) = ap (λ (ys : List OrderFrame). x ∷ ys) (filled_next xs k)

skipped_slot : (xs : List (Option OrderFrame)) (n k : ℕ) → slice_index_or (drop n xs) k None ≡ slice_index_or xs (n + k) None
skipped_slot xs zero k = ap (λ (i : ℕ). slice_index_or xs i None) (omega arith)
skipped_slot [] (suc n) k = refl
skipped_slot (x ∷ xs) (suc n) k =
    let one : suc (n + k) ≡ suc n + k = omega arith in
    skipped_slot xs n k ∙ ap (λ (i : ℕ). slice_index_or (x ∷ xs) i None) one

-- the slot at a place, behind those that are skipped
pub filled_on : (xs : List (Option OrderFrame)) (skipped at : ℕ) → skipped ≤ at
    → filled (take (at + 1 - skipped) (drop skipped xs)) ≡ filled (take (at - skipped) (drop skipped xs)) ++ filled (slice_index_or xs at None ∷ [])
filled_on xs skipped at within =
    let next : at + 1 - skipped ≡ suc (at - skipped) = omega (arith, within) in
    let there : skipped + (at - skipped) ≡ at = omega (arith, within) in
    ap (λ (k : ℕ). filled (take k (drop skipped xs))) next
    ∙ filled_next (drop skipped xs) (at - skipped)
    ∙ ap (λ (slot : Option OrderFrame). filled (take (at - skipped) (drop skipped xs)) ++ filled (slot ∷ []))
    (skipped_slot xs skipped (at - skipped) ∙ ap (λ (i : ℕ). slice_index_or xs i None) there)
