-- Elements of lists that are put together.
use Rattle.std.proofs.Common.{◌≡◌, ℕ, zero, suc, ◌≤◌, ◌⊎◌, inl, inr, Bool, true, false, List, [], ◌∷◌, ◌++◌, map, get_or, nat_le, refl, sym, ◌∙◌, subst, arith}
use Rattle.std.specs.List.{flat_map}
use Rattle.std.specs.Prelude.{All, Any}
use Rattle.std.proofs.lemmas.Bool.{leb-true, leb-false}

module _ {A : Type 0} (P : A → Type 0) where
  pub all_left : (xs ys : List A) → All P (xs ++ ys) → All P xs
  all_left [] ys all k d within = absurd (omega arith)
  all_left (x ∷ xs) ys all zero d within = all 0 d (omega arith)
  all_left (x ∷ xs) ys all (suc k) d within = all_left xs ys (λ i e small. all (suc i) e (omega arith)) k d (omega arith)

  pub all_right : (xs ys : List A) → All P (xs ++ ys) → All P ys
  all_right [] ys all = all
  all_right (x ∷ xs) ys all = all_right xs ys (λ i e small. all (suc i) e (omega arith))

  pub all_under : {X : Type 0} (f : X → A) (xs : List X) → All P (map f xs) → All (λ x. P (f x)) xs
  all_under f [] all k d within = absurd (omega arith)
  all_under f (x ∷ xs) all zero d within = all 0 (f x) (omega arith)
  all_under f (x ∷ xs) all (suc k) d within = all_under f xs (λ i e small. all (suc i) e (omega arith)) k d (omega arith)

  pub all_flat : {X : Type 0} (f : X → List A) (xs : List X) → All P (flat_map f xs) → All (λ x. All P (f x)) xs
  all_flat f [] all k d within = absurd (omega arith)
  all_flat f (x ∷ xs) all zero d within = all_left (f x) (flat_map f xs) all
  all_flat f (x ∷ xs) all (suc k) d within = all_flat f xs (all_right (f x) (flat_map f xs) all) k d (omega arith)

  pub any_later : (x : A) (xs : List A) → Any P xs → Any P (x ∷ xs)
  any_later x xs any = (suc any.0, any.1, omega (arith, any.2), any.3, any.4)

  pub any_left : (xs ys : List A) → Any P xs → Any P (xs ++ ys)
  any_left [] ys (k, x, within, at, is) = absurd (omega arith)
  any_left (y ∷ xs) ys (zero, x, within, at, is) = (0, x, omega arith, at, is)
  any_left (y ∷ xs) ys (suc k, x, within, at, is) = any_later y (xs ++ ys) (any_left xs ys (k, x, omega arith, at, is))

  pub any_right : (xs ys : List A) → Any P ys → Any P (xs ++ ys)
  any_right [] ys any = any
  any_right (x ∷ xs) ys any = any_later x (xs ++ ys) (any_right xs ys any)

  pub any_split : (xs ys : List A) → Any P (xs ++ ys) → Any P xs ⊎ Any P ys
  any_split [] ys any = inr any
  any_split (y ∷ xs) ys (zero, x, within, at, is) = inl (0, x, omega arith, at, is)
  any_split (y ∷ xs) ys (suc k, x, within, at, is) =
      elim (any_split xs ys (k, x, omega arith, at, is)) [
        | inl left ↦ inl (any_later y xs left)
        | inr right ↦ inr right
      ]

  pub any_of_flat : {X : Type 0} (f : X → List A) (xs : List X) → Any P (flat_map f xs) → Any (λ x. Any P (f x)) xs
  any_of_flat f [] any = absurd (omega (arith, any.2))
  any_of_flat {X} f (x ∷ xs) any =
      let rest : Any P (flat_map f xs) → Any (λ y. Any P (f y)) xs = any_of_flat f xs in
      elim (any_split (f x) (flat_map f xs) any) [
        | inl here ↦ (0, x, omega arith, refl, here)
        | inr there ↦ (let r = rest there in (suc r.0, r.1, omega (arith, r.2), r.3, r.4))
      ]

  pub any_flat : {X : Type 0} (f : X → List A) (xs : List X) → Any (λ x. Any P (f x)) xs → Any P (flat_map f xs)
  any_flat f [] (k, x, within, at, is) = absurd (omega arith)
  any_flat {X} f (y ∷ xs) (zero, x, within, at, is) = any_left (f y) (flat_map f xs) (subst (λ (z : X). Any P (f z)) (sym at) is)
  any_flat f (y ∷ xs) (suc k, x, within, at, is) = any_right (f y) (flat_map f xs) (any_flat f xs (k, x, omega arith, at, is))

  pub all_at : (xs : List A) (x : A) → All P xs → Any (λ y. y ≡ x) xs → P x
  all_at xs x all (k, y, within, at, same) = subst P (at ∙ same) (all k y within)

-- ---- a greatest one of those that pass a test

pub record IsGreatest {A : Type 0} (f : A → ℕ) (test : A → Bool) (xs : List A) (x : A) : Type 0 where
  pub among : Any (λ y. y ≡ x) xs
  pub passes : test x ≡ true
  pub most : All (λ y. test y ≡ true → f y ≤ f x) xs

module _ {A : Type 0} (f : A → ℕ) (test : A → Bool) where
  with_first : (x : A) (xs : List A) (told : Bool) → test x ≡ told → All (λ y. test y ≡ false) xs ⊎ ((y : A) × IsGreatest f test xs y)
      → All (λ y. test y ≡ false) (x ∷ xs) ⊎ ((y : A) × IsGreatest f test (x ∷ xs) y)
  with_first x xs false is (inl none) = inl all
    where
      all : All (λ y. test y ≡ false) (x ∷ xs)
      all zero d within = is
      all (suc k) d within = none k d (omega arith)
  with_first x xs false is (inr (y, g)) = inr (y, record { among = any_later (λ z. z ≡ y) x xs g.among; passes = g.passes; most = all })
    where
      all : All (λ z. test z ≡ true → f z ≤ f y) (x ∷ xs)
      all zero d within passes = absurd cc
      all (suc k) d within passes = g.most k d (omega arith) passes
  with_first x xs true is (inl none) = inr (x, record { among = (0, x, omega arith, refl, refl); passes = is; most = all })
    where
      apart : (z : A) → test z ≡ false → test z ≡ true → f z ≤ f x
      apart z fails passes = absurd cc

      all : All (λ z. test z ≡ true → f z ≤ f x) (x ∷ xs)
      all zero d within passes = omega arith
      all (suc k) d within passes = apart (get_or xs k d) (none k d (omega arith)) passes
  with_first x xs true is (inr (y, g)) = by (nat_le (f x) (f y)) refl
    where
      below : f x ≤ f y → All (λ z. test z ≡ true → f z ≤ f y) (x ∷ xs)
      below low zero d within passes = low
      below low (suc k) d within passes = g.most k d (omega arith) passes

      above : f y ≤ f x → All (λ z. test z ≡ true → f z ≤ f x) (x ∷ xs)
      above high zero d within passes = omega arith
      above high (suc k) d within passes = let low = g.most k d (omega arith) passes in omega arith

      by : (b : Bool) → nat_le (f x) (f y) ≡ b → All (λ z. test z ≡ false) (x ∷ xs) ⊎ ((z : A) × IsGreatest f test (x ∷ xs) z)
      by true low = inr (y, record { among = any_later (λ z. z ≡ y) x xs g.among; passes = g.passes; most = below (leb-true _ _ low) })
      by false high = let less = leb-false _ _ high in inr (x, record { among = (0, x, omega arith, refl, refl); passes = is; most = above (omega arith) })

  pub greatest_or_none : (xs : List A) → All (λ y. test y ≡ false) xs ⊎ ((y : A) × IsGreatest f test xs y)
  greatest_or_none [] = inl (λ k d within. absurd (omega arith))
  greatest_or_none (x ∷ xs) = with_first x xs (test x) refl (greatest_or_none xs)
