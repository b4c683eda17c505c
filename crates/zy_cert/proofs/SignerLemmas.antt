-- What the tests over lists of signed statements say.
use Rattle.std.proofs.Common.{◌≡◌, ◌≢◌, ℕ, suc, ◌<◌, Bool, false, not, List, [], ◌∷◌, length, All, Any, get_or, refl, sym, arith}
use Rattle.std.specs.Bool.{Decides}
use Rattle.std.specs.List.{list_any}
use Rattle.std.proofs.lemmas.Bool.{both_ways, or_parts, or_from, not-false, true_from_ne_false, false_from_ne_true}
use Rattle.std.proofs.lemmas.Bool.Decides.{Decides-eqb, Decides-like, Decides-not}
use Rattle.std.proofs.lemmas.List.Folds.{Any-from_list_any, list_any-from_Any, list_any_at, list_any_none}
use Rattle.std.proofs.lemmas.List.Kept.{AllPairs-cons}
use Rattle.zy_base.specs.declared.ids.Party.{Party}
use Rattle.zy_base.specs.declared.ids.Party.TheVariants.{Replica, Client}
use Rattle.zy_parts.specs.declared.signed.Signed.{Signed}
use Rattle.zy_cert.specs.Signers.{same_party, has_signer, has_repeat, has_other, AreDifferent}

pub party-equal : (a b : Party) → Decides (same_party a b) (a ≡ b)
party-equal (Replica a) (Replica b) =
    Decides-like _ (λ e. let same : Replica (record { 0 = a.0 }) ≡ Replica (record { 0 = b.0 }) = cc in same) (λ e. let same : a.0 ≡ b.0 = cc in same) (Decides-eqb a.0 b.0)
party-equal (Replica a) (Client b) = (λ told. absurd cc, λ e. absurd cc)
party-equal (Client a) (Replica b) = (λ told. absurd cc, λ e. absurd cc)
party-equal (Client a) (Client b) =
    Decides-like _ (λ e. let same : Client (record { 0 = a.0 }) ≡ Client (record { 0 = b.0 }) = cc in same) (λ e. let same : a.0 ≡ b.0 = cc in same) (Decides-eqb a.0 b.0)

module _ {A : Type 0} (p : A → Bool) (P : A → Type 0) (told : (x : A) → Decides (p x) (P x)) where
  -- one of a list, by a test that tells each
  pub any-told : (xs : List A) → Decides (list_any p xs) (Any P xs)
  any-told xs = (
    λ yes. let h = Any-from_list_any p xs yes in (h.0, h.1, h.2, h.3, (told h.1).0 h.4),
    λ h. list_any-from_Any p xs (h.0, h.1, h.2, h.3, (told h.1).1 h.4),
  )

  -- none of a list
  pub none-told : (xs : List A) → list_any p xs ≡ false → (k : ℕ) (d : A) → k < length xs → P (get_or xs k d) → ⊥
  none-told xs none k d small holds = both_ways _ none (list_any_at p xs k d small ((told (get_or xs k d)).1 holds))

  pub none-from : (xs : List A) → ((k : ℕ) (d : A) → k < length xs → P (get_or xs k d) → ⊥) → list_any p xs ≡ false
  none-from xs none = list_any_none p xs (λ k d small. false_from_ne_true _ (λ yes. none k d small ((told (get_or xs k d)).0 yes)))

module _ {S : Type 0} where
  signer-told : (by : Party) (s : Signed S) → Decides (same_party s.by by) (s.by ≡ by)
  signer-told by s = party-equal s.by by

  pub has_signer-told : (by : Party) (list : List (Signed S)) → Decides (has_signer by list) (Any (λ s. s.by ≡ by) list)
  has_signer-told by list = any-told (λ s. same_party s.by by) (λ s. s.by ≡ by) (signer-told by) list

  pub no_signer : (by : Party) (list : List (Signed S)) → has_signer by list ≡ false → (k : ℕ) (d : Signed S) → k < length list → (get_or list k d).by ≢ by
  no_signer by list none k d small same = none-told (λ s. same_party s.by by) (λ s. s.by ≡ by) (signer-told by) list none k d small same

  pub no_repeat : (list : List (Signed S)) → has_repeat list ≡ false → AreDifferent list
  no_repeat [] none = λ i j d before small. absurd (omega arith)
  no_repeat (first ∷ others) none =
      let parts = or_parts (has_signer first.by others) (has_repeat others) none in
      AllPairs-cons (λ a b. a.by ≢ b.by) first others (λ k d small same. no_signer first.by others parts.0 k d small (sym same)) (no_repeat others parts.1)

  pub different-told : (list : List (Signed S)) → AreDifferent list → has_repeat list ≡ false
  different-told [] different = refl
  different-told (first ∷ others) different =
      or_from _ _
      (none-from (λ s. same_party s.by first.by) (λ s. s.by ≡ first.by) (signer-told first.by) others (λ k d small same. different 0 (suc k) d (omega arith) (omega arith) (sym same)))
      (different-told others (λ i j d before small. different (suc i) (suc j) d (omega arith) (omega arith)))

  pub has_repeat-told : (list : List (Signed S)) → Decides (has_repeat list) (AreDifferent list → ⊥)
  has_repeat-told list = (λ yes different. both_ways _ (different-told list different) yes, λ same. true_from_ne_false _ (λ none. same (no_repeat list none)))

module _ {S : Type 0} (same : S → S → Bool) (equal : (x y : S) → Decides (same x y) (x ≡ y)) where
  other-told : (stmt : S) (s : Signed S) → Decides (not (same s.stmt stmt)) (s.stmt ≢ stmt)
  other-told stmt s = Decides-not _ (equal s.stmt stmt)

  pub has_other-told : (stmt : S) (list : List (Signed S)) → Decides (has_other same stmt list) (Any (λ s. s.stmt ≢ stmt) list)
  has_other-told stmt list = any-told (λ s. not (same s.stmt stmt)) (λ s. s.stmt ≢ stmt) (other-told stmt) list

  pub no_other : (stmt : S) (list : List (Signed S)) → has_other same stmt list ≡ false → All (λ s. s.stmt ≡ stmt) list
  no_other stmt list none k d small = (equal (get_or list k d).stmt stmt).0 (not-false _ (false_from_ne_true _ (λ yes. both_ways _ none (list_any_at (λ s. not (same s.stmt stmt)) list k d small yes))))

  pub equal-no_other : (stmt : S) (list : List (Signed S)) → All (λ s. s.stmt ≡ stmt) list → has_other same stmt list ≡ false
  equal-no_other stmt list all = none-from (λ s. not (same s.stmt stmt)) (λ s. s.stmt ≢ stmt) (other-told stmt) list (λ k d small other. other (all k d small))
