-- What tests find in lists.
use Rattle.std.proofs.Common.{◌≡◌, ℕ, Bool, true, false, ◌||◌, List, [], ◌∷◌, ◌++◌, map, refl, sym, ap, ◌∙◌, append_assoc}
use Rattle.std.specs.Prelude.{nat_eq, not}
use Rattle.std.specs.Bool.{MatchBool}
use Rattle.std.specs.Cmp.{nat_eq_equiv}
use Rattle.std.specs.List.{list_any}
use Rattle.std.specs.List.Sorted.{IsPermutation}
use Rattle.std.specs.Str.{bytes_eq}
use Rattle.std.proofs.lemmas.List.Folds.{list_any-append}
use Rattle.std.proofs.lemmas.List.Sorted.{list_any-IsPermutation}

-- ---- a test through what it looks at

pub any_mapped : {A B : Type 0} (test : B → Bool) (f : A → B) (xs : List A) → list_any (λ x. test (f x)) xs ≡ list_any test (map f xs)
any_mapped test f [] = refl
any_mapped test f (x ∷ xs) = ap (λ (b : Bool). test (f x) || b) (any_mapped test f xs)

pub any_number : {A : Type 0} (f : A → ℕ) (n : ℕ) (xs : List A) → list_any (λ x. nat_eq (f x) n) xs ≡ list_any (nat_eq n) (map f xs)
any_number f n [] = refl
any_number f n (x ∷ xs) =
    ap (λ (b : Bool). b || list_any (λ y. nat_eq (f y) n) xs) (nat_eq_equiv.symm (f x) n) ∙ ap (λ (b : Bool). nat_eq n (f x) || b) (any_number f n xs)

-- ---- a key more

or_true : (a : Bool) → (a || true) ≡ true
or_true true = refl
or_true false = refl

module _ {K : Type 0} (eq : K → K → Bool) (test : K → Bool) (key : K) (alike : (k : K) → eq key k ≡ true → test k ≡ test key) where
  found : (keys : List K) → list_any (eq key) keys ≡ true → test key ≡ true → list_any test keys ≡ true
  found [] there is = absurd cc
  found (k ∷ keys) there is = by (eq key k) refl there (λ later. found keys later is)
    where
      by : (b : Bool) → eq key k ≡ b → (b || list_any (eq key) keys) ≡ true → (list_any (eq key) keys ≡ true → list_any test keys ≡ true) → (test k || list_any test keys) ≡ true
      by true same _ rest = ap (λ (b : Bool). b || list_any test keys) (alike k same ∙ is)
      by false other later rest = ap (λ (b : Bool). test k || b) (rest later) ∙ or_true (test k)

  or_found : (b : Bool) → test key ≡ b → (old : List K) → list_any (eq key) old ≡ true → list_any test old ≡ (b || list_any test old)
  or_found true is old there = found old there is
  or_found false is old there = refl

  known : (there : Bool) → false ≡ not there → there ≡ true
  known true is = refl
  known false is = cc

  pub any_put : (old new : List K) (added : Bool) → added ≡ not (list_any (eq key) old) → MatchBool added (IsPermutation (key ∷ old) new) (new ≡ old)
      → list_any test new ≡ (test key || list_any test old)
  any_put old new true is put = sym (list_any-IsPermutation test (key ∷ old) new put)
  any_put old new false is put =
      ap (list_any test) put ∙ or_found (test key) refl old (known (list_any (eq key) old) is)

-- ---- texts more

or_last : (a b : Bool) → (a || b) ≡ (b || (a || false))
or_last true true = refl
or_last true false = refl
or_last false true = refl
or_last false false = refl

-- the text is found, or what was found before
pub any_last : (q text : List ℕ) (old : List (List ℕ)) → (bytes_eq q text || list_any (bytes_eq q) old) ≡ list_any (bytes_eq q) (old ++ text ∷ [])
any_last q text old =
    or_last (bytes_eq q text) (list_any (bytes_eq q) old) ∙ sym (list_any-append (bytes_eq q) old (text ∷ []))

pub any_moved : (q text : List ℕ) (old new rest : List (List ℕ)) → list_any (bytes_eq q) new ≡ list_any (bytes_eq q) (old ++ text ∷ [])
    → list_any (bytes_eq q) (new ++ rest) ≡ list_any (bytes_eq q) (old ++ text ∷ rest)
any_moved q text old new rest is =
    list_any-append (bytes_eq q) new rest
    ∙ ap (λ (b : Bool). b || list_any (bytes_eq q) rest) is
    ∙ sym (list_any-append (bytes_eq q) (old ++ text ∷ []) rest)
    ∙ ap (list_any (bytes_eq q)) (append_assoc old (text ∷ []) rest)
