-- Two sets of replicas that are together larger than all and the liars share a correct one.
use Rattle.std.proofs.Common.{◌≡◌, ◌≢◌, ℕ, zero, suc, ◌+◌, ◌<◌, ◌≤◌, Bool, true, false, not, cond, eqb, ◌&&◌, ◌||◌, inl, inr, List, [], ◌∷◌, length, get_or, Some, refl, sym, ap, subst, arith}
use Rattle.std.specs.Prelude.{All, count_by, slice_get}
use Rattle.std.specs.List.{AllPairs, list_any}
use Rattle.std.proofs.lemmas.Bool.{cases_Bool, and_parts, and_from, and_right, or_cases, or_left, or_right, cases_eq, eqb-true, eq-eqb, ne_eqb}
use Rattle.std.proofs.lemmas.List.Sums.{sum_by-cons}
use Rattle.std.proofs.lemmas.List.Folds.{list_any_none}
use Rattle.std.proofs.lemmas.List.Elements.{All-head, All-tail}
use Rattle.zy_law.specs.Counting.{count_below}

abbrev pub bit : Bool → ℕ
bit b = cond b 1 0

-- the one induction
pub weighed : (n : ℕ) (a b c d e : ℕ → Bool) → ((i : ℕ) → bit (a i) + bit (b i) ≤ bit (c i) + bit (d i) + bit (e i))
    → count_below n a + count_below n b ≤ count_below n c + count_below n d + count_below n e
weighed zero a b c d e each = omega arith
weighed (suc n) a b c d e each = omega (arith, each n, weighed n a b c d e each)

pub count_everyone : (n : ℕ) → count_below n (λ i. true) ≡ n
count_everyone zero = refl
count_everyone (suc n) = omega (arith, count_everyone n)

shared_bit : (p q l : Bool) → bit p + bit q ≤ bit true + bit ((p && q) && not l) + bit l
shared_bit true true true = omega arith
shared_bit true true false = omega arith
shared_bit true false true = omega arith
shared_bit true false false = omega arith
shared_bit false true true = omega arith
shared_bit false true false = omega arith
shared_bit false false true = omega arith
shared_bit false false false = omega arith

pub count_shared : (n : ℕ) (p q liar : ℕ → Bool) → count_below n p + count_below n q ≤ n + count_below n (λ i. (p i && q i) && not (liar i)) + count_below n liar
count_shared n p q liar =
    omega (arith, count_everyone n, weighed n p q (λ i. true) (λ i. (p i && q i) && not (liar i)) liar (λ i. shared_bit (p i) (q i) (liar i)))

inside_bit : (p q r : Bool) → (p ≡ true → r ≡ true) → (q ≡ true → r ≡ true) → bit p + bit q ≤ bit r + bit (p && q) + bit false
inside_bit true true true a b = omega arith
inside_bit true true false a b = absurd (cc (a refl))
inside_bit true false true a b = omega arith
inside_bit true false false a b = absurd (cc (a refl))
inside_bit false true true a b = omega arith
inside_bit false true false a b = absurd (cc (b refl))
inside_bit false false true a b = omega arith
inside_bit false false false a b = omega arith

count_nobody : (n : ℕ) → count_below n (λ i. false) ≡ 0
count_nobody zero = refl
count_nobody (suc n) = omega (arith, count_nobody n)

-- of two sets within a third
pub count_inside : (n : ℕ) (p q r : ℕ → Bool) → ((i : ℕ) → p i ≡ true → r i ≡ true) → ((i : ℕ) → q i ≡ true → r i ≡ true)
    → count_below n p + count_below n q ≤ count_below n r + count_below n (λ i. p i && q i)
count_inside n p q r a b =
    omega (arith, count_nobody n, weighed n p q r (λ i. p i && q i) (λ i. false) (λ i. inside_bit (p i) (q i) (r i) (a i) (b i)))

pub count_fewer : (n : ℕ) (p q : ℕ → Bool) → ((i : ℕ) → p i ≡ true → q i ≡ true) → count_below n p ≤ count_below n q
count_fewer n p q a =
    let both : (b : Bool) (c : Bool) → (b ≡ true → c ≡ true) → bit b + bit false ≤ bit c + bit false + bit false = fewer_bit in
    omega (arith, count_nobody n, weighed n p (λ i. false) q (λ i. false) (λ i. false) (λ i. both (p i) (q i) (a i)))
  where
    fewer_bit : (b c : Bool) → (b ≡ true → c ≡ true) → bit b + bit false ≤ bit c + bit false + bit false
    fewer_bit true true h = omega arith
    fewer_bit true false h = absurd (cc (h refl))
    fewer_bit false c h = omega arith

-- where some are counted, one is there
pub counted : (n : ℕ) (p : ℕ → Bool) → 0 < count_below n p → (r : ℕ) × (r < n) × (p r ≡ true)
counted zero p some = absurd (omega arith)
counted (suc n) p some =
    elim (cases_Bool (p n)) [
      | inl holds ↦ (n, omega arith, holds)
      | inr fails ↦
          let rest = counted n p (omega (arith, ap bit fails)) in
          (rest.0, omega (arith, rest.1), rest.2)
    ]

-- ---- lists of items with numbers, no number twice

-- whether an item that passes the test has this number
abbrev pub named : {A : Type 0} → (A → ℕ) → (A → Bool) → List A → ℕ → Bool
named by test xs r = list_any (λ x. test x && eqb (by x) r) xs

pub named_found : {A : Type 0} (by : A → ℕ) (test : A → Bool) (xs : List A) (r : ℕ) → named by test xs r ≡ true
    → (k : ℕ) × (x : A) × (slice_get xs k ≡ Some x) × (test x ≡ true) × (by x ≡ r)
named_found by test [] r holds = absurd cc
named_found by test (x ∷ xs) r holds =
    elim (or_cases (test x && eqb (by x) r) (named by test xs r) holds) [
      | inl here ↦ (0, x, refl, (and_parts (test x) (eqb (by x) r) here).0, eqb-true (by x) r (and_parts (test x) (eqb (by x) r) here).1)
      | inr there ↦ let rest = named_found by test xs r there in (suc rest.0, rest.1, rest.2, rest.3, rest.4)
    ]

pub named_from : {A : Type 0} (by : A → ℕ) (test : A → Bool) (xs : List A) (r k : ℕ) (x : A) → slice_get xs k ≡ Some x → test x ≡ true → by x ≡ r
    → named by test xs r ≡ true
named_from by test [] r k x at holds is = absurd cc
named_from by test (y ∷ xs) r zero x at holds is =
    let same : y ≡ x = cc in
    or_left (test y && eqb (by y) r) (named by test xs r) (and_from (test y) (eqb (by y) r) (rw same holds) (eq-eqb (by y) r (rw same is)))
named_from by test (y ∷ xs) r (suc k) x at holds is = or_right (test y && eqb (by y) r) (named by test xs r) (named_from by test xs r k x at holds is)

count_without : (n : ℕ) (x : ℕ) (q : ℕ → Bool) → n ≤ x → count_below n (λ r. eqb x r || q r) ≡ count_below n q
count_without zero x q beyond = refl
count_without (suc n) x q beyond =
    let not_it : eqb x n ≡ false = ne_eqb x n (λ e. omega arith) in
    rw not_it (ap (λ (k : ℕ). bit (q n) + k) (count_without n x q (omega arith)))

count_with : (n : ℕ) (x : ℕ) (q : ℕ → Bool) → x < n → q x ≡ false → count_below n (λ r. eqb x r || q r) ≡ 1 + count_below n q
count_with zero x q within new = absurd (omega arith)
count_with (suc n) x q within new =
    elim (cases_eq x n) [
      | inl last ↦
          let it : eqb x n ≡ true = eq-eqb x n last in
          let none : q n ≡ false = subst (λ (k : ℕ). q k ≡ false) last new in
          rw (it, none) (omega (arith, count_without n x q (omega arith)))
      | inr before ↦
          let not_it : eqb x n ≡ false = ne_eqb x n before in
          rw not_it (omega (arith, count_with n x q (omega arith) new))
    ]

count_more : (b : Bool) (n : ℕ) (x : ℕ) (q : ℕ → Bool) → x < n → q x ≡ false → count_below n (λ r. (b && eqb x r) || q r) ≡ bit b + count_below n q
count_more true n x q within new = count_with n x q within new
count_more false n x q within new = omega arith

AllPairs-tail : {A : Type 0} (R : A → A → Type 0) (x : A) (xs : List A) → AllPairs R (x ∷ xs) → AllPairs R xs
AllPairs-tail R x xs all i j d before within = all (suc i) (suc j) d (omega arith) (omega arith)

AllPairs-head : {A : Type 0} (R : A → A → Type 0) (x : A) (xs : List A) → AllPairs R (x ∷ xs) → All (R x) xs
AllPairs-head R x xs all j d within = all 0 (suc j) d (omega arith) (omega arith)

-- as many numbers as items
pub count_named : {A : Type 0} (n : ℕ) (by : A → ℕ) (test : A → Bool) (xs : List A) → AllPairs (λ x y. by x ≢ by y) xs → All (λ x. by x < n) xs
    → count_below n (named by test xs) ≡ count_by test xs
count_named n by test [] different within = count_nobody n
count_named {A} n by test (x ∷ xs) different within =
    let new : named by test xs (by x) ≡ false =
    list_any_none (λ (y : A). test y && eqb (by y) (by x)) xs
    (λ j d inside. and_right (test (get_or xs j d)) (eqb (by (get_or xs j d)) (by x)) (ne_eqb _ _ (λ e. AllPairs-head (λ (x y : A). by x ≢ by y) x xs different j d inside (sym e)))) in
    let one = count_more (test x) n (by x) (named by test xs) (All-head (λ (y : A). by y < n) x xs within) new in
    let rest = count_named n by test xs (AllPairs-tail (λ (x y : A). by x ≢ by y) x xs different) (All-tail (λ (y : A). by y < n) x xs within) in
    omega (arith, one, rest, sum_by-cons (λ (y : A). bit (test y)) x xs)

pub count_all : {A : Type 0} (xs : List A) → count_by (λ x. true) xs ≡ length xs
count_all [] = refl
count_all {A} (x ∷ xs) = omega (arith, count_all xs, sum_by-cons (λ (y : A). 1) x xs)
