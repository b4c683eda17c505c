-- How many checkpoints lie above one place, up to another.
use Rattle.std.proofs.Common.{◌≡◌, ℕ, zero, suc, ◌+◌, ◌-◌, ◌*◌, ◌/◌, ◌%◌, ◌<◌, nat_eq, nat_lt, Bool, true, false, if◌then◌else◌, List, ◌∷◌, length, filter, inl, inr, refl, sym, ap, ◌∙◌, arith}
use Rattle.std.specs.List.{range_with_len}
use Rattle.std.proofs.lemmas.Bool.{cases_Bool, eq-eqb, ne_eqb, ltb-true, ltb-false}
use Rattle.std.proofs.lemmas.Nat.{div-add-mod', div-mul-add, mod-mul-add, mod_below}
use Rattle.zy_table.specs.Adopting.{checkpoints_between}

abbrev one_if : Bool → ℕ
one_if b = if b then 1 else 0

-- one place on is the next multiple, or not
one_on : (k low : ℕ) → 0 < k → (low + 1) / k ≡ low / k + one_if (nat_eq ((low + 1) % k) 0)
one_on k low some =
    let below = mod_below low k some in
    let whole : low / k * k + low % k ≡ low = div-add-mod' low k in
    elim (cases_Bool (nat_lt (low % k + 1) k)) [
      | inl inside ↦
          let fits = ltb-true _ _ inside in
          let e : low + 1 ≡ low / k * k + (low % k + 1) = omega (arith, whole) in
          let quotient : (low + 1) / k ≡ low / k = ap (λ (n : ℕ). n / k) e ∙ div-mul-add (low / k) k (low % k + 1) fits in
          let rest : (low + 1) % k ≡ low % k + 1 = ap (λ (n : ℕ). n % k) e ∙ mod-mul-add (low / k) k (low % k + 1) fits in
          let not : nat_eq ((low + 1) % k) 0 ≡ false = ne_eqb _ _ (λ zero. (let never : ⊥ = omega (arith, rest, zero) in never)) in
          quotient ∙ (rw not (omega arith))
      | inr outside ↦
          let over = ltb-false _ _ outside in
          let last : low % k + 1 ≡ k = omega (arith, over, below) in
          let next : (low / k + 1) * k + 0 ≡ low / k * k + k = omega arith in
          let e : low + 1 ≡ (low / k + 1) * k + 0 = omega (arith, whole, last, next) in
          let quotient : (low + 1) / k ≡ low / k + 1 = ap (λ (n : ℕ). n / k) e ∙ div-mul-add (low / k + 1) k 0 some in
          let rest : (low + 1) % k ≡ 0 = ap (λ (n : ℕ). n % k) e ∙ mod-mul-add (low / k + 1) k 0 some in
          let is : nat_eq ((low + 1) % k) 0 ≡ true = eq-eqb _ _ rest in
          quotient ∙ (rw is refl)
    ]

abbrev due : ℕ → ℕ → ℕ → List ℕ
due k low n = filter (λ place. nat_eq (place % k) 0) (range_with_len (low + 1) n)

counted_if : (b : Bool) (place : ℕ) (rest : List ℕ) → length (if b then place ∷ rest else rest) ≡ one_if b + length rest
counted_if true place rest = omega arith
counted_if false place rest = omega arith

-- so many more than lie below
up_to : (k low n : ℕ) → 0 < k → low / k + length (due k low n) ≡ (low + n) / k
up_to k low zero some =
    let e : low ≡ low + 0 = omega arith in
    let none : low / k + 0 ≡ low / k = omega arith in
    none ∙ ap (λ (m : ℕ). m / k) e
up_to k low (suc n) some =
    let e : low + 1 + n ≡ low + suc n = omega arith in
    let one = one_on k low some in
    let rest : (low + 1) / k + length (due k (low + 1) n) ≡ (low + 1 + n) / k = up_to k (low + 1) n some in
    let here = counted_if (nat_eq ((low + 1) % k) 0) (low + 1) (due k (low + 1) n) in
    omega (arith, one, rest, here) ∙ ap (λ (m : ℕ). m / k) e

pub checkpoints_count : (k low high : ℕ) → 0 < k → high / k - low / k ≡ length (checkpoints_between k low high)
checkpoints_count k low high some =
    elim (cases_Bool (nat_lt high low)) [
      | inl past ↦
          let over = ltb-true _ _ past in
          let none : high - low ≡ 0 = omega (arith, over) in
          let back : high + (low - high) ≡ low = omega (arith, over) in
          let fewer = up_to k high (low - high) some ∙ ap (λ (m : ℕ). m / k) back in
          let zero_more : high / k - low / k ≡ 0 = omega (arith, fewer) in
          zero_more ∙ ap (λ (n : ℕ). length (due k low n)) (sym none)
      | inr up ↦
          let order = ltb-false _ _ up in
          let end : low + (high - low) ≡ high = omega (arith, order) in
          let all = up_to k low (high - low) some ∙ ap (λ (m : ℕ). m / k) end in
          omega (arith, all)
    ]
