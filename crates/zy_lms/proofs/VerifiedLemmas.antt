-- Whether a signature verifies, as a test and as a fact.
use Rattle.std.proofs.Common.{arith, ◌≡◌, ◌+◌, ◌<◌, ◌^◌, ℕ, List, length, take, drop, refl}
use Rattle.std.specs.Bool.{Decides}
use Rattle.std.specs.Prelude.{Bool, true, false, Option, Some, None}
use Rattle.std.proofs.lemmas.Bool.Decides.{same_from_decides, Decides-eqb, Decides-ltb, Decides-and, Decides-like, nat_tests}
use Rattle.std.proofs.lemmas.Slice.Eq.{bytes_eq-Decides}
use Rattle.zy_ots.specs.declared.ots_type.OtsType.{OtsType}
use Rattle.zy_ots.specs.declared.ots_type.OtsType.TheVariants.{W4, W8}
use Rattle.zy_ots.specs.OtsType as OtsType
use Rattle.zy_ots.specs.Coef.{number_at}
use Rattle.zy_ots.specs.OneTime.{HasForm, has_form}
use Rattle.zy_lms.specs.declared.height.Height.{Height}
use Rattle.zy_lms.specs.declared.height.Height.TheVariants.{H5, H10}
use Rattle.zy_lms.specs.Height.{type_number_of, height_with, levels_of}
use Rattle.zy_lms.specs.Lms.{Verifies, VerifiesAs, verified, verified_as, signature_len_of, leaf_of, ots_part, candidate_root}

pub height_with-number : (n : ℕ) (height : Height) → n ≡ type_number_of height → height_with n ≡ Some height
height_with-number n H5 e = rw e refl
height_with-number n H10 e = rw e refl

pub type_with-number : (n : ℕ) (ots : OtsType) → n ≡ OtsType.number_of ots → OtsType.type_with n ≡ Some ots
type_with-number n W4 e = rw e refl
type_with-number n W8 e = rw e refl

number-height_with : (n : ℕ) (height : Height) → height_with n ≡ Some height → n ≡ type_number_of height
number-height_with n height e = grind (arith, nat_tests)

number-type_with : (n : ℕ) (ots : OtsType) → OtsType.type_with n ≡ Some ots → n ≡ OtsType.number_of ots
number-type_with n ots e = grind (arith, nat_tests)

never : (P : Type 0) → false ≡ true → P
never P e = absurd (cc)

module _ (public message signature : List ℕ) where
  Decides-verified_as : (height : Height) (ots : OtsType) → number_at public 0 ≡ type_number_of height → number_at public 4 ≡ OtsType.number_of ots
      → Decides (verified_as (Some height) (Some ots) public message signature) (VerifiesAs height ots public message signature)
  Decides-verified_as height ots key_type key_ots =
      let form : Decides (has_form ots (ots_part ots signature)) (HasForm ots (ots_part ots signature)) =
      Decides-and _ _ (Decides-eqb (length (ots_part ots signature)) (OtsType.signature_len_of ots)) (Decides-eqb (number_at (ots_part ots signature) 0) (OtsType.number_of ots)) in
      let tests =
      Decides-and _ _ (Decides-and _ _ (Decides-and _ _ (Decides-and _ _ (Decides-and _ _
      (Decides-eqb (length public) 56)
      (Decides-eqb (length signature) (signature_len_of height ots)))
      (Decides-ltb (leaf_of signature) (2 ^ levels_of height)))
      form)
      (Decides-eqb (number_at signature (4 + OtsType.signature_len_of ots)) (type_number_of height)))
      (bytes_eq-Decides (candidate_root height ots (take 16 (drop 8 public)) message signature) (drop 24 public)) in
      Decides-like _
      (λ (all : (((((length public ≡ 56) × (length signature ≡ signature_len_of height ots)) × (leaf_of signature < 2 ^ levels_of height)) × HasForm ots (ots_part ots signature)) × (number_at signature (4 + OtsType.signature_len_of ots) ≡ type_number_of height)) × (candidate_root height ots (take 16 (drop 8 public)) message signature ≡ drop 24 public)). record {
        key_len = all.0.0.0.0.0;
        key_type = key_type;
        key_ots = key_ots;
        len = all.0.0.0.0.1;
        leaf = all.0.0.0.1;
        ots_form = all.0.0.1;
        type = all.0.1;
        root = all.1;
      })
      (λ v. (((((v.key_len, v.len), v.leaf), v.ots_form), v.type), v.root))
      tests

  verified_then : (height : Option Height) (ots : Option OtsType) → height_with (number_at public 0) ≡ height → OtsType.type_with (number_at public 4) ≡ ots
      → verified_as height ots public message signature ≡ true → Verifies public message signature
  verified_then (Some height) (Some ots) key_type key_ots =
      λ yes. (height, ots, (Decides-verified_as height ots (number-height_with _ height key_type) (number-type_with _ ots key_ots)).0 yes)
  verified_then (Some height) None key_type key_ots = never _
  verified_then None ots key_type key_ots = never _

  pub Decides-verified : Decides (verified public message signature) (Verifies public message signature)
  unfolding verified
  Decides-verified = (
    verified_then (height_with (number_at public 0)) (OtsType.type_with (number_at public 4)) refl refl,
    λ (height, ots, v). rw (height_with-number _ height v.key_type, type_with-number _ ots v.key_ots) ((Decides-verified_as height ots v.key_type v.key_ots).1 v),
  )

  -- an answer that is right under the key's types is the test's
  pub verified-under : (height : Height) (ots : OtsType) (answer : Bool) → height_with (number_at public 0) ≡ Some height → OtsType.type_with (number_at public 4) ≡ Some ots
      → Decides answer (VerifiesAs height ots public message signature) → answer ≡ verified public message signature
  unfolding verified
  verified-under height ots answer key_type key_ots decides =
      rw (key_type, key_ots)
      (same_from_decides answer (verified_as (Some height) (Some ots) public message signature) decides
      (Decides-verified_as height ots (number-height_with _ height key_type) (number-type_with _ ots key_ots)))
