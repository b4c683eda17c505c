-- A signature of two levels verifies under the key's public key, and tells both leaves.
use Rattle.std.proofs.Common.{arith, ◌≡◌, ◌≤◌, ◌<◌, ◌++◌, ◌∷◌, [], length, ℕ, ◌+◌, ◌*◌, ◌/◌, ◌%◌, ◌^◌, List, take, drop, ◌∙◌, ap, subst, refl, length-append, append_assoc}
use Rattle.std.specs.Int.{w32, to_be_bytes, from_be_bytes}
use Rattle.std.proofs.lemmas.List.{take_at, drop_at, length-take-le, take-append-le}
use Rattle.sha2.specs.Sha256.{sha256}
use Rattle.sha2.proofs.Facts256.{length-sha256}
use Rattle.zy_ots.specs.Coef.{number_at}
use Rattle.zy_ots.proofs.NumberLemmas.{number_at-spelled}
use Rattle.zy_lms.specs.declared.height.Height.{Height}
use Rattle.zy_lms.specs.declared.height.Height.TheVariants.{H5, H10}
use Rattle.zy_lms.specs.Height.{levels_of, signatures_of}
use Rattle.zy_lms.specs.KeyState.{KeyState, at_leaf}
use Rattle.zy_lms.specs.Lms.{public_of, signature_of, signature_len_of, VerifiesAs}
use Rattle.zy_lms.specs.Hss.{HssVerifies, hss_public_of, hss_signature_of, id_under, key_under, lower_leaf, lower_leaf_in, signed_key_in, signed_key_of, top_leaf, top_leaf_in}
use Rattle.zy_lms.proofs.LmsLemmas.{leaf_is, VerifiesAs-signature}

-- ---- numbers of signatures

pub top_within : (height : Height) (n : ℕ) → n < signatures_of height → n / 2 ^ levels_of height < 2 ^ levels_of height
top_within H5 n below = omega arith
top_within H10 n below = omega arith

pub lower_within : (height : Height) (n : ℕ) → n % 2 ^ levels_of height < 2 ^ levels_of height
lower_within H5 n = omega arith
lower_within H10 n = omega arith

pub same_number : (height : Height) (a b : ℕ) → a / 2 ^ levels_of height ≡ b / 2 ^ levels_of height
    → a % 2 ^ levels_of height ≡ b % 2 ^ levels_of height → a ≡ b
same_number H5 a b top lower = omega arith
same_number H10 a b top lower = omega arith

-- the first number under a top leaf, and those behind it
pub first_within : (height : Height) (q : ℕ) → q ≤ 2 ^ levels_of height → q * 2 ^ levels_of height ≤ signatures_of height
first_within H5 q few = omega arith
first_within H10 q few = omega arith

pub behind_first : (height : Height) (q n : ℕ) → q * 2 ^ levels_of height ≤ n → q ≤ n / 2 ^ levels_of height
behind_first H5 q n behind = omega arith
behind_first H10 q n behind = omega arith

pub signatures_fit : (height : Height) → signatures_of height < 2 ^ 32
signatures_fit H5 = omega arith
signatures_fit H10 = omega arith

-- ---- numbers in strings

number_at-behind : (before s : List ℕ) (i : ℕ) → length before ≡ i → number_at (before ++ s) i ≡ number_at s 0
number_at-behind before s i here = ap (λ bytes. from_be_bytes w32 (take 4 bytes)) (drop_at before s i here)

number_at-front : (s rest : List ℕ) → 4 ≤ length s → number_at (s ++ rest) 0 ≡ number_at s 0
number_at-front s rest long = ap (from_be_bytes w32) (take-append-le 4 s rest long)

-- ---- keys

pub public-at_leaf : (k : KeyState) (q : ℕ) → public_of (at_leaf k q) ≡ public_of k
unfolding public_of
public-at_leaf k q = refl

sized_under : (k : KeyState) (q : ℕ) → length (id_under k.seed q) ≡ 16
sized_under k q =
    let long = length-sha256 (4 ∷ k.seed ++ to_be_bytes w32 q) in
    length-take-le 16 (sha256 (4 ∷ k.seed ++ to_be_bytes w32 q)) (omega arith)

module _ (k : KeyState) (message : List ℕ) (sized : length k.id ≡ 16) (left : k.next < signatures_of k.height) where
  abbrev lower : KeyState
  lower = key_under k (top_leaf k)

  abbrev lower_public : List ℕ
  lower_public = public_of lower

  abbrev top_signature : List ℕ
  top_signature = signature_of (at_leaf k (top_leaf k)) lower_public

  abbrev lower_signature : List ℕ
  lower_signature = signature_of (at_leaf lower (lower_leaf k)) message

  top_verifies : VerifiesAs k.height k.ots (public_of k) lower_public top_signature
  top_verifies =
      subst (λ public. VerifiesAs k.height k.ots public lower_public top_signature) (public-at_leaf k (top_leaf k))
      (VerifiesAs-signature (at_leaf k (top_leaf k)) lower_public sized (top_within k.height k.next left))

  lower_verifies : VerifiesAs k.height k.ots lower_public message lower_signature
  lower_verifies =
      subst (λ public. VerifiesAs k.height k.ots public message lower_signature) (public-at_leaf lower (lower_leaf k))
      (VerifiesAs-signature (at_leaf lower (lower_leaf k)) message (sized_under k (top_leaf k)) (lower_within k.height k.next))

  -- ---- the public key

  levels_are : number_at (hss_public_of k) 0 ≡ 2
  unfolding hss_public_of
  levels_are = number_at-spelled [] (public_of k) 2 0 refl (omega arith)

  top_public_is : drop 4 (hss_public_of k) ≡ public_of k
  unfolding hss_public_of
  top_public_is = drop_at (to_be_bytes w32 2) (public_of k) 4 refl

  -- ---- the signature

  signature_is : hss_signature_of k message ≡ to_be_bytes w32 1 ++ (top_signature ++ (lower_public ++ lower_signature))
  unfolding hss_signature_of
  signature_is =
      append_assoc (to_be_bytes w32 1) (top_signature ++ lower_public) lower_signature
      ∙ ap (λ behind. to_be_bytes w32 1 ++ behind) (append_assoc top_signature lower_public lower_signature)

  signed_keys_are : number_at (hss_signature_of k message) 0 ≡ 1
  signed_keys_are =
      ap (λ s. number_at s 0) signature_is
      ∙ number_at-spelled [] (top_signature ++ (lower_public ++ lower_signature)) 1 0 refl (omega arith)

  parts_are : drop 4 (hss_signature_of k message) ≡ top_signature ++ (lower_public ++ lower_signature)
  parts_are = ap (drop 4) signature_is ∙ drop_at (to_be_bytes w32 1) (top_signature ++ (lower_public ++ lower_signature)) 4 refl

  pub HssVerifies-signature : HssVerifies (hss_public_of k) message (hss_signature_of k message)
  HssVerifies-signature = record {
    top_signature = top_signature;
    lower_public = lower_public;
    lower_signature = lower_signature;
    levels = levels_are;
    signed_keys = signed_keys_are;
    parts = parts_are;
    top = (k.height, k.ots, rw top_public_is top_verifies);
    lower = (k.height, k.ots, lower_verifies);
  }

  -- ---- its leaves

  pub top_leaf_is : top_leaf_in (hss_signature_of k message) ≡ top_leaf k
  top_leaf_is =
      let len = top_verifies.len in
      ap (λ s. number_at s 4) signature_is
      ∙ number_at-behind (to_be_bytes w32 1) (top_signature ++ (lower_public ++ lower_signature)) 4 refl
      ∙ number_at-front top_signature (lower_public ++ lower_signature) (omega arith)
      ∙ leaf_is (at_leaf k (top_leaf k)) lower_public sized (top_within k.height k.next left)

  length-signed_key : length (top_signature ++ lower_public) ≡ 56 + signature_len_of k.height k.ots
  length-signed_key = omega (arith, length-append top_signature lower_public, top_verifies.len, lower_verifies.key_len)

  pub lower_leaf_is : lower_leaf_in k.height k.ots (hss_signature_of k message) ≡ lower_leaf k
  unfolding hss_signature_of
  lower_leaf_is =
      number_at-behind (to_be_bytes w32 1 ++ (top_signature ++ lower_public)) lower_signature (60 + signature_len_of k.height k.ots)
      (omega (arith, length-append (to_be_bytes w32 1) (top_signature ++ lower_public), length-signed_key))
      ∙ leaf_is (at_leaf lower (lower_leaf k)) message (sized_under k (top_leaf k)) (lower_within k.height k.next)

  pub signed_key_is : signed_key_in k.height k.ots (hss_signature_of k message) ≡ signed_key_of k (top_leaf k)
  unfolding hss_signature_of
  signed_key_is =
      ap (take (56 + signature_len_of k.height k.ots))
      (ap (drop 4) (append_assoc (to_be_bytes w32 1) (top_signature ++ lower_public) lower_signature)
      ∙ drop_at (to_be_bytes w32 1) ((top_signature ++ lower_public) ++ lower_signature) 4 refl)
      ∙ take_at (top_signature ++ lower_public) lower_signature (56 + signature_len_of k.height k.ots) length-signed_key
