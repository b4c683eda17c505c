-- So many different places of a list pass a test as the count says.
use Rattle.std.proofs.Common.{◌≡◌, ◌≢◌, ℕ, zero, suc, ◌+◌, ◌<◌, ◌≤◌, Bool, true, false, cond, List, [], ◌∷◌, length, get_or, refl, ap, ◌∙◌, subst, arith}
use Rattle.std.specs.Prelude.{count_by}
use Rattle.std.specs.List.{AllByRecursion, AllPairs}
use Rattle.std.proofs.lemmas.List.Sums.{sum_by-cons}

-- numbers from one on, rising
abbrev pub Rising : ℕ → List ℕ → Type 0
Rising least [] = Unit {0}
Rising least (n ∷ ns) = (least ≤ n) × Rising (n + 1) ns

pub rising_from : (low high : ℕ) (ns : List ℕ) → low ≤ high → Rising high ns → Rising low ns
rising_from low high [] below rising = tt
rising_from low high (n ∷ ns) below rising = (omega (arith, rising.0), rising.1)

rising_at : (least : ℕ) (ns : List ℕ) (j d : ℕ) → Rising least ns → j < length ns → least ≤ get_or ns j d
rising_at least [] j d rising within = absurd (omega arith)
rising_at least (n ∷ ns) zero d rising within = rising.0
rising_at least (n ∷ ns) (suc j) d rising within = let behind = rising_at (n + 1) ns j d rising.1 (omega arith) in omega (arith, behind, rising.0)

pub rising_differ : (least : ℕ) (ns : List ℕ) → Rising least ns → AllPairs (λ (a b : ℕ). a ≢ b) ns
rising_differ least [] rising i j d before within = absurd (omega arith)
rising_differ least (n ∷ ns) rising zero zero d before within = absurd (omega arith)
rising_differ least (n ∷ ns) rising zero (suc j) d before within = λ same. let behind = rising_at (n + 1) ns j d rising.1 (omega arith) in omega (arith, behind, same)
rising_differ least (n ∷ ns) rising (suc i) zero d before within = absurd (omega arith)
rising_differ least (n ∷ ns) rising (suc i) (suc j) d before within = rising_differ (n + 1) ns rising.1 i j d (omega arith) (omega arith)

pub record Picked (least count : ℕ) (P : ℕ → Type 0) : Type 0 where
  pub numbers : List ℕ
  pub many : length numbers ≡ count
  pub rising : Rising least numbers
  pub each : AllByRecursion P numbers

module _ {A : Type 0} (p : A → Bool) (default : A) where
  counted_cons : (x : A) (xs : List A) (b : Bool) → p x ≡ b → count_by p (x ∷ xs) ≡ cond b 1 0 + count_by p xs
  counted_cons x xs b is = sum_by-cons (λ (y : A). cond (p y) 1 0) x xs ∙ ap (λ (b : Bool). cond b 1 0 + count_by p xs) is

  behind : (P : ℕ → Type 0) (x : A) (xs : List A) (least : ℕ) → ((i : ℕ) → i < length (x ∷ xs) → p (get_or (x ∷ xs) i default) ≡ true → P (least + i))
      → (i : ℕ) → i < length xs → p (get_or xs i default) ≡ true → P (least + 1 + i)
  behind P x xs least each i within is = let one : least + suc i ≡ least + 1 + i = omega arith in subst P one (each (suc i) (omega arith) is)

  picked_at : (P : ℕ → Type 0) (x : A) (xs : List A) (least count : ℕ) → ((i : ℕ) → i < length (x ∷ xs) → p (get_or (x ∷ xs) i default) ≡ true → P (least + i))
      → ((fewer : ℕ) → fewer ≤ count_by p xs → Picked (least + 1) fewer P) → (b : Bool) → p x ≡ b → suc count ≤ count_by p (x ∷ xs) → Picked least (suc count) P
  picked_at P x xs least count each rest true is enough =
      let others = rest count (omega (arith, counted_cons x xs true is)) in
      let here : P least = let none : least + 0 ≡ least = omega arith in subst P none (each 0 (omega arith) is) in
      record { numbers = least ∷ others.numbers; many = ap suc others.many; rising = (omega arith, others.rising); each = (here, others.each) }
  picked_at P x xs least count each rest false is enough =
      let others = rest (suc count) (omega (arith, counted_cons x xs false is)) in
      record { numbers = others.numbers; many = others.many; rising = rising_from least (least + 1) others.numbers (omega arith) others.rising; each = others.each }

  -- as many places as are wanted, if there are so many
  pub picked : (P : ℕ → Type 0) (xs : List A) (least count : ℕ) → ((i : ℕ) → i < length xs → p (get_or xs i default) ≡ true → P (least + i)) → count ≤ count_by p xs → Picked least count P
  picked P xs least zero each enough = record { numbers = []; many = refl; rising = tt; each = tt }
  picked P [] least (suc count) each enough = absurd (omega arith)
  picked P (x ∷ xs) least (suc count) each enough =
      picked_at P x xs least count each (λ fewer few. picked P xs (least + 1) fewer (behind P x xs least each) few) (p x) refl enough
