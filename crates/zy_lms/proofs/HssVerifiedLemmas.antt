-- Whether a signature of two levels verifies, as a test and as a fact.
use Rattle.std.proofs.Common.{arith, ◌≡◌, ◌≢◌, ◌<◌, ◌+◌, ◌++◌, ℕ, List, length, length-drop, take, drop, refl, sym, ap, ◌∙◌}
use Rattle.std.specs.Bool.{Decides}
use Rattle.std.specs.Prelude.{Bool, true, false, Option, Some, None, ◌==◌, ◌&&◌, ◌↔◌, IsTrue}
use Rattle.std.proofs.lemmas.Bool.{and_left, and_parts, and_right, false_from_ne_true, false≢true, ne_eqb}
use Rattle.std.proofs.lemmas.Bool.Decides.{Decides-eqb, Decides-and}
use Rattle.std.proofs.lemmas.List.{take_at, drop_at, length-take, take-append-drop}
use Rattle.zy_ots.specs.Coef.{number_at}
use Rattle.zy_lms.specs.Lms.{Verifies, verified, signature_len_of}
use Rattle.zy_lms.specs.Hss.{HssVerifies, hss_verified, len_under, verified_below, verified_in_parts}
use Rattle.zy_lms.proofs.VerifiedLemmas.{Decides-verified, height_with-number, type_with-number}

-- what isn't as long as a public key verifies nothing
pub no_public_key : (public message signature : List ℕ) → length public ≢ 56 → verified public message signature ≡ false
no_public_key public message signature short =
    false_from_ne_true (verified public message signature) (λ yes. let v = (Decides-verified public message signature).0 yes in short v.2.key_len)

module _ (public message signature : List ℕ) where
  Decides-parts : (len : ℕ) → Decides ((number_at public 0 == 2) && verified_below (Some len) (drop 4 public) message signature)
      ((number_at public 0 ≡ 2) × ((number_at signature 0 ≡ 1) × (Verifies (drop 4 public) (take 56 (drop len (drop 4 signature))) (take len (drop 4 signature)) × Verifies (take 56 (drop len (drop 4 signature))) message (drop 56 (drop len (drop 4 signature))))))
  Decides-parts len =
      Decides-and _ _ (Decides-eqb (number_at public 0) 2)
      (Decides-and _ _ (Decides-eqb (number_at signature 0) 1)
      (Decides-and _ _
      (Decides-verified (drop 4 public) (take 56 (drop len (drop 4 signature))) (take len (drop 4 signature)))
      (Decides-verified (take 56 (drop len (drop 4 signature))) message (drop 56 (drop len (drop 4 signature))))))

  -- the parts that the test cuts make up the whole
  cut_parts : (len : ℕ) → drop 4 signature ≡ take len (drop 4 signature) ++ (take 56 (drop len (drop 4 signature)) ++ drop 56 (drop len (drop 4 signature)))
  cut_parts len =
      sym (take-append-drop len (drop 4 signature))
      ∙ ap (λ behind. take len (drop 4 signature) ++ behind) (sym (take-append-drop 56 (drop len (drop 4 signature))))

  verified_then : (len : Option ℕ) → ((number_at public 0 == 2) && verified_below len (drop 4 public) message signature) ≡ true
      → HssVerifies public message signature
  verified_then None passes = absurd (false≢true (and_parts (number_at public 0 == 2) false passes).1)
  verified_then (Some len) passes =
      let all = (Decides-parts len).0 passes in
      record {
        top_signature = take len (drop 4 signature);
        lower_public = take 56 (drop len (drop 4 signature));
        lower_signature = drop 56 (drop len (drop 4 signature));
        levels = all.0;
        signed_keys = all.1.0;
        parts = cut_parts len;
        top = all.1.1.0;
        lower = all.1.1.1;
      }

  -- the parts of a signature that verifies are those that the test cuts
  then_verified : (v : HssVerifies public message signature) (len : ℕ) → length v.top_signature ≡ len → length v.lower_public ≡ 56
      → ((number_at public 0 == 2) && verified_below (Some len) (drop 4 public) message signature) ≡ true
  then_verified v len top_len lower_len =
      let top : take len (drop 4 signature) ≡ v.top_signature =
      ap (take len) v.parts ∙ take_at v.top_signature (v.lower_public ++ v.lower_signature) len top_len in
      let behind : drop len (drop 4 signature) ≡ v.lower_public ++ v.lower_signature =
      ap (drop len) v.parts ∙ drop_at v.top_signature (v.lower_public ++ v.lower_signature) len top_len in
      let lower : take 56 (drop len (drop 4 signature)) ≡ v.lower_public =
      ap (take 56) behind ∙ take_at v.lower_public v.lower_signature 56 lower_len in
      let last : drop 56 (drop len (drop 4 signature)) ≡ v.lower_signature =
      ap (drop 56) behind ∙ drop_at v.lower_public v.lower_signature 56 lower_len in
      (Decides-parts len).1 (v.levels, (v.signed_keys, (rw (lower, top) v.top, rw (lower, last) v.lower)))

  pub Decides-hss_verified : Decides (hss_verified public message signature) (HssVerifies public message signature)
  unfolding hss_verified
  Decides-hss_verified = (
    verified_then (len_under (drop 4 public)),
    λ v.
        let height = v.top.0 in
        let ots = v.top.1 in
        let len : len_under (drop 4 public) ≡ Some (signature_len_of height ots) =
        rw (height_with-number (number_at (drop 4 public) 0) height v.top.2.key_type, type_with-number (number_at (drop 4 public) 4) ots v.top.2.key_ots) refl in
        rw len (then_verified v (signature_len_of height ots) v.top.2.len v.lower.2.key_len),
  )

  -- an answer that is the test's says whether the signature verifies
  pub meaning : (answer : Bool) → answer ≡ hss_verified public message signature → IsTrue answer ↔ HssVerifies public message signature
  meaning answer same = rw same Decides-hss_verified

-- ---- how the test comes out

module _ (len : ℕ) (top message signature : List ℕ) where
  pub too_short : length signature < 60 + len → verified_below (Some len) top message signature ≡ false
  too_short short =
      let lower = take 56 (drop len (drop 4 signature)) in
      let lower_len = length-take 56 (drop len (drop 4 signature)) in
      let none : length lower ≢ 56 = omega (arith, lower_len, length-drop len (drop 4 signature), length-drop 4 signature) in
      and_right (number_at signature 0 == 1) (verified_in_parts len top message (drop 4 signature))
      (and_right (verified top lower (take len (drop 4 signature))) (verified lower message (drop 56 (drop len (drop 4 signature))))
      (no_public_key lower message (drop 56 (drop len (drop 4 signature))) none))

  pub other_count : number_at signature 0 ≢ 1 → verified_below (Some len) top message signature ≡ false
  other_count other =
      and_left (number_at signature 0 == 1) (verified_in_parts len top message (drop 4 signature)) (ne_eqb (number_at signature 0) 1 other)

  pub one_signed_key : number_at signature 0 ≡ 1 → verified_in_parts len top message (drop 4 signature) ≡ verified_below (Some len) top message signature
  one_signed_key one = rw one refl

module _ (public message signature : List ℕ) where
  pub other_levels : number_at public 0 ≢ 2 → false ≡ hss_verified public message signature
  unfolding hss_verified
  other_levels other =
      sym (and_left (number_at public 0 == 2) (verified_below (len_under (drop 4 public)) (drop 4 public) message signature) (ne_eqb (number_at public 0) 2 other))

  pub two_levels : (len : Option ℕ) → number_at public 0 ≡ 2 → len_under (drop 4 public) ≡ len
      → verified_below len (drop 4 public) message signature ≡ hss_verified public message signature
  unfolding hss_verified
  two_levels len two told = rw (two, told) refl
