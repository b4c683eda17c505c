-- Tests and what they decide.
use Rattle.std.proofs.Common.{◌≡◌, ◌≢◌, ℕ, ◌≤◌, nat_eq, nat_le, Bool, true, false, if◌then◌else◌, List, [], ◌∷◌, Option, Some, None, refl}
use Rattle.std.specs.Bool.{Decides}
use Rattle.std.specs.List.{All, list_all}
use Rattle.std.proofs.lemmas.Bool.{leb-true, le-leb}
use Rattle.std.proofs.lemmas.Bool.Decides.{Decides-by_and, Decides-eqb}
use Rattle.zy_evidence.specs.Rules.{is_none_of}

pub at_most : (a b : ℕ) → Decides (nat_le a b) (a ≤ b)
at_most a b = (leb-true a b, le-leb a b)

pub all_of : {X : Type 0} (p : X → Bool) (P : X → Type 0) → ((x : X) → Decides (p x) (P x)) → (xs : List X) → Decides (list_all p xs) (All P xs)
all_of p P each xs = Decides-by_and p P (list_all p) each refl (λ x xs. refl) xs

pub none_of : {X : Type 0} → (xs : List X) → Decides (is_none_of xs) (xs ≡ [])
none_of [] = (λ is. refl, λ is. refl)
none_of (x ∷ xs) = (λ is. absurd cc, λ is. absurd cc)

pub refuted : {P : Type 0} → (b : Bool) → Decides b P → (P → ⊥) → b ≡ false
refuted true d wrong = absurd (wrong (d.0 refl))
refuted false d wrong = refl

-- a choice by whether a number is 0
pub where_zero : {A B : Type 0} → (n : ℕ) (x y : Bool) → Decides x A → Decides y B → Decides (if nat_eq n 0 then x else y) ((n ≡ 0 → A) × (n ≢ 0 → B))
where_zero {A = A} {B = B} n x y dx dy = by (nat_eq n 0) (Decides-eqb n 0)
  where
    by : (b : Bool) → Decides b (n ≡ 0) → Decides (if b then x else y) ((n ≡ 0 → A) × (n ≢ 0 → B))
    by true d = (λ is. (λ zero. dx.0 is, λ other. absurd (other (d.0 refl))), λ both. dx.1 (both.0 (d.0 refl)))
    by false d = (
      λ is. (λ zero. absurd (let wrong : false ≡ true = d.1 zero in cc), λ other. dy.0 is),
      λ both. dy.1 (both.1 (λ zero. let wrong : false ≡ true = d.1 zero in cc)),
    )

-- ---- the first rule that is broken

-- none is broken exactly where P holds
abbrev pub Clear : {R : Type 0} → Option R → Type 0 → Type 0
Clear rule P = (rule ≡ None → P) × (P → rule ≡ None)

pub all_kept : {R : Type 0} → Clear {R = R} None (Unit {0})
all_kept = (λ is. tt, λ all. refl)

-- one rule more, before the others
pub and_first : {R P Q : Type 0} → (b : Bool) (rule : R) (rest : Option R) → Decides b P → Clear rest Q → Clear (if b then rest else Some rule) (P × Q)
and_first true rule rest d clear = (λ is. (d.0 refl, clear.0 is), λ both. clear.1 both.1)
and_first false rule rest d clear = (λ is. absurd cc, λ both. absurd (let wrong : false ≡ true = d.1 both.0 in cc))
