-- Which number each signature of a key tells.
use Rattle.std.proofs.Common.{◌≡◌, ℕ, ◌+◌, ◌*◌, ◌<◌, ◌≤◌, ◌^◌, ◌/◌, ◌%◌, List, ◌++◌, length, length-drop, take, drop, Some, refl, sym, ap, ◌∙◌, arith}
use Rattle.std.specs.Prelude.{option_and_then}
use Rattle.std.proofs.lemmas.Bool.{le-leb, lt-ltb}
use Rattle.std.proofs.lemmas.List.{append_assoc, drop-append-le, drop_at, take-append-le, take-take, drop-drop}
use Rattle.std.specs.Int.{w32, to_be_bytes, from_be_bytes}
use Rattle.zy_ots.specs.Coef.{number_at}
use Rattle.zy_ots.specs.OtsType as ots_types
use Rattle.zy_lms.proofs.HssLemmas.{lower_leaf_is, lower_within, top_leaf_is, top_within}
pub use Rattle.zy_lms.proofs.HssSizes.{few_bytes, few_signatures, least_signatures, signature_long, signature_short}
use Rattle.zy_lms.proofs.LmsLemmas.{VerifiesAs-signature}
use Rattle.zy_lms.proofs.VerifiedLemmas.{height_with-number, type_with-number}
use Rattle.zy_lms.specs.declared.height.Height.{Height}
use Rattle.zy_lms.specs.declared.height.Height.TheVariants.{H5, H10}
use Rattle.zy_lms.specs.Height.{levels_of, type_number_of}
use Rattle.zy_lms.specs.Hss.{hss_signature_of, key_under, lower_leaf, top_leaf}
use Rattle.zy_lms.specs.KeyState.{KeyState, at_leaf}
use Rattle.zy_lms.specs.Lms.{VerifiesAs, public_of, signature_of, signature_len_of}
use Rattle.zy_seal.specs.Sealing.{height_told, number_of_leaves, number_there, number_told, ots_told, signatures_by}

pub leaves_fit : (height : Height) (top lower : ℕ) → top < 2 ^ levels_of height → lower < 2 ^ levels_of height
    → top * 2 ^ levels_of height + lower < 2 ^ 32
leaves_fit H5 top lower below under = omega arith
leaves_fit H10 top lower below under = omega arith

number_there-Some : (bytes : List ℕ) (place : ℕ) → place + 4 ≤ length bytes → number_there bytes place ≡ Some (number_at bytes place)
number_there-Some bytes place long = rw (le-leb (place + 4) (length bytes) long) refl

-- a number within a part is that of the whole behind what stands before the part
number_at-part : (before part after : List ℕ) (i : ℕ) → i + 4 ≤ length part → number_at (before ++ (part ++ after)) (length before + i) ≡ number_at part i
number_at-part before part after i inside =
    ap (λ (s : List ℕ). from_be_bytes w32 (take 4 s))
    (sym (drop-drop i (length before) (before ++ (part ++ after)))
    ∙ ap (drop i) (drop_at before (part ++ after) (length before) refl)
    ∙ drop-append-le i part after (omega arith))
    ∙ ap (from_be_bytes w32) (take-append-le 4 (drop i part) after (room i part inside))
  where
    room : (i : ℕ) (s : List ℕ) → i + 4 ≤ length s → 4 ≤ length (drop i s)
    room i s inside = omega (arith, length-drop i s)

leaves_number : (height : Height) (n : ℕ) → n < signatures_by height
    → number_of_leaves (2 ^ levels_of height) (n / 2 ^ levels_of height) (n % 2 ^ levels_of height) ≡ Some n
leaves_number height n left =
    rw (lt-ltb (n / 2 ^ levels_of height) (2 ^ levels_of height) (top_within height n left), lt-ltb (n % 2 ^ levels_of height) (2 ^ levels_of height) (lower_within height n))
    (ap (λ (m : ℕ). Some m) (whole height n))
  where
    whole : (height : Height) (n : ℕ) → n / 2 ^ levels_of height * 2 ^ levels_of height + n % 2 ^ levels_of height ≡ n
    whole H5 n = omega arith
    whole H10 n = omega arith

module _ (k : KeyState) (text : List ℕ) (sized : length k.id ≡ 16) (left : k.next < signatures_by k.height) where
  abbrev sig : List ℕ
  sig = hss_signature_of k text

  abbrev lower : KeyState
  lower = key_under k (top_leaf k)

  abbrev top : List ℕ
  top = signature_of (at_leaf k (top_leaf k)) (public_of lower)

  abbrev last : List ℕ
  last = signature_of (at_leaf lower (lower_leaf k)) text

  top_verifies : VerifiesAs k.height k.ots (public_of (at_leaf k (top_leaf k))) (public_of lower) top
  top_verifies = VerifiesAs-signature (at_leaf k (top_leaf k)) (public_of lower) sized (top_within k.height k.next left)

  parts : sig ≡ to_be_bytes w32 1 ++ (top ++ (public_of lower ++ last))
  unfolding hss_signature_of
  parts =
      append_assoc (to_be_bytes w32 1) (top ++ public_of lower) last
      ∙ ap (λ (behind : List ℕ). to_be_bytes w32 1 ++ behind) (append_assoc top (public_of lower) last)

  in_top : (i : ℕ) → i + 4 ≤ length top → number_at sig (4 + i) ≡ number_at top i
  in_top i inside = ap (λ (s : List ℕ). number_at s (4 + i)) parts ∙ number_at-part (to_be_bytes w32 1) top (public_of lower ++ last) i inside

  ots_is : ots_told sig ≡ Some k.ots
  ots_is =
      let long = signature_long k text in
      let len = top_verifies.len in
      let there : number_there sig 8 ≡ Some (number_at sig 8) = number_there-Some sig 8 (omega (arith, long)) in
      let number : number_at sig 8 ≡ ots_types.number_of k.ots =
      in_top 4 (omega (arith, len)) ∙ sym (ap (from_be_bytes w32) (take-take 4 (ots_types.signature_len_of k.ots) (drop 4 top) (omega arith))) ∙ top_verifies.ots_form.1 in
      ap (option_and_then ots_types.type_with) there ∙ type_with-number (number_at sig 8) k.ots number

  height_is : height_told sig k.ots ≡ Some k.height
  height_is =
      let long = signature_long k text in
      let len = top_verifies.len in
      let place = 8 + ots_types.signature_len_of k.ots in
      let there : number_there sig place ≡ Some (number_at sig place) = number_there-Some sig place (omega (arith, long)) in
      let here : place ≡ 4 + (4 + ots_types.signature_len_of k.ots) = omega arith in
      let number : number_at sig place ≡ type_number_of k.height =
      ap (number_at sig) here ∙ in_top (4 + ots_types.signature_len_of k.ots) (omega (arith, len)) ∙ top_verifies.type in
      ap (option_and_then _) there ∙ height_with-number (number_at sig place) k.height number

  pub number_is : number_told sig ≡ Some k.next
  number_is =
      let long = signature_long k text in
      let place = 60 + signature_len_of k.height k.ots in
      let there : number_there sig place ≡ Some (number_at sig place) = number_there-Some sig place (omega (arith, long)) in
      rw (ots_is, height_is, there, top_leaf_is k text sized left, lower_leaf_is k text sized left) (leaves_number k.height k.next left)
