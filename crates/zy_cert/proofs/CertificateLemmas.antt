-- A list certifies a point exactly where it is a certificate for it.
use Rattle.std.proofs.Common.{◌≡◌, ℕ, zero, suc, ◌<◌, Bool, true, false, cond, nat_lt, List, [], ◌∷◌, length, All, Result, Ok, Err, refl, sym, ap, ◌∙◌, arith}
use Rattle.std.specs.Bool.{Decides}
use Rattle.std.proofs.lemmas.Bool.{ltb-false, le-ltb, cond-false}
use Rattle.zy_base.specs.declared.cause.Cause.{Cause}
use Rattle.zy_base.specs.declared.cause.Cause.TheVariants as causes
use Rattle.zy_base.specs.declared.ids.View.{View}
use Rattle.zy_base.specs.declared.ids.Place.{Place}
use Rattle.zy_base.specs.declared.ids.Digest.{Digest}
use Rattle.zy_parts.specs.declared.signed.Signed.{Signed}
use Rattle.zy_cert.specs.Signers.{has_repeat, has_other}
use Rattle.zy_cert.specs.Certificates.{IsCertificate, certified, point_of_equal}
use Rattle.zy_cert.proofs.SignerLemmas.{no_repeat, different-told, no_other, equal-no_other}

-- what comes past a refusal
past : {A : Type 0} (b : Bool) (cause : Cause) (r : Result A Cause) (x : A) → cond b (Err cause) r ≡ Ok x → (b ≡ false) × (r ≡ Ok x)
past true cause r x e = absurd cc
past false cause r x e = (refl, e)

module _ {S : Type 0} (same : S → S → Bool) (equal : (x y : S) → Decides (same x y) (x ≡ y)) (at : S → View × Place × Digest) where
  all_equal : (first : Signed S) (others : List (Signed S)) → All (λ s. s.stmt ≡ first.stmt) others → All (λ s. s.stmt ≡ first.stmt) (first ∷ others)
  all_equal first others all zero d small = refl
  all_equal first others all (suc k) d small = all k d (omega arith)

  equal-taken : (count : ℕ) (list : List (Signed S)) (point : View × Place × Digest) → length list ≡ count → has_repeat list ≡ false → point_of_equal same at list ≡ Ok point → IsCertificate at count list point
  equal-taken count [] point len different e = absurd cc
  equal-taken count (first ∷ others) point len different e =
      let parts = past (has_other same first.stmt others) causes.Mixed (Ok (at first.stmt)) point e in
      record {
        stmt = first.stmt;
        located = cc;
        len = len;
        different = no_repeat (first ∷ others) different;
        equal = all_equal first others (no_other same equal first.stmt others parts.0);
      }

  pub certified-taken : (count : ℕ) (list : List (Signed S)) (point : View × Place × Digest) → certified same at count list ≡ Ok point → IsCertificate at count list point
  certified-taken count list point e =
      let many = past (nat_lt (length list) count) (causes.TooFew (length list)) _ point e in
      let few = past (nat_lt count (length list)) causes.Mixed _ point many.1 in
      let different = past (has_repeat list) causes.Repeat _ point few.1 in
      equal-taken count list point (omega (arith, ltb-false _ _ many.0, ltb-false _ _ few.0)) different.0 different.1

  equal-found : (list : List (Signed S)) (point : View × Place × Digest) (stmt : S) → 0 < length list → at stmt ≡ point → All (λ s. s.stmt ≡ stmt) list → point_of_equal same at list ≡ Ok point
  equal-found [] point stmt some located all = absurd (omega arith)
  equal-found (first ∷ others) point stmt some located all =
      let here : first.stmt ≡ stmt = all 0 first (omega arith) in
      let alike = equal-no_other same equal first.stmt others (λ k d small. all (suc k) d (omega arith) ∙ sym here) in
      cond-false _ _ _ alike ∙ ap (λ (s : S). Ok (at s)) here ∙ ap Ok located

  pub certified-found : (count : ℕ) (list : List (Signed S)) (point : View × Place × Digest) → 0 < count → IsCertificate at count list point → certified same at count list ≡ Ok point
  certified-found count list point some is =
      let len = is.len in
      cond-false (nat_lt (length list) count) _ _ (le-ltb _ _ (omega arith))
      ∙ cond-false (nat_lt count (length list)) _ _ (le-ltb _ _ (omega arith))
      ∙ cond-false (has_repeat list) _ _ (different-told list is.different)
      ∙ equal-found list point is.stmt (omega arith) is.located is.equal
