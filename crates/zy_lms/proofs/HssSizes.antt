-- How many signatures of two levels a key gives, and how long each of them is, whichever it is and whatever it signs.
use Rattle.std.proofs.Common.{◌≡◌, ℕ, ◌+◌, ◌*◌, ◌<◌, ◌≤◌, ◌^◌, List, [], ◌++◌, ◌∷◌, length, refl, arith}
use Rattle.std.proofs.lemmas.List.{length-append, length-take-le}
use Rattle.std.specs.Int.{w32, to_be_bytes}
use Rattle.std.specs.List.{concat}
use Rattle.sha2.specs.Sha256.{sha256}
use Rattle.sha2.proofs.Facts256.{length-sha256}
use Rattle.zy_ots.proofs.OneTimeLemmas.{Verifies-signature}
use Rattle.zy_ots.specs.OneTime as one_time
use Rattle.zy_ots.specs.declared.ots_type.OtsType.{OtsType}
use Rattle.zy_ots.specs.declared.ots_type.OtsType.TheVariants.{W4, W8}
use Rattle.zy_lms.proofs.LmsLemmas.{VerifiesAs-signature}
use Rattle.zy_lms.proofs.TreeLemmas.{length-path_from}
use Rattle.zy_lms.specs.declared.height.Height.{Height}
use Rattle.zy_lms.specs.declared.height.Height.TheVariants.{H5, H10}
use Rattle.zy_lms.specs.Height.{levels_of, signatures_of, type_number_of}
use Rattle.zy_lms.specs.Hss.{hss_signature_of, id_under, key_under, lower_leaf, top_leaf}
use Rattle.zy_lms.specs.KeyState.{KeyState, at_leaf}
use Rattle.zy_lms.specs.Lms.{public_of, signature_of, signature_len_of}
use Rattle.zy_lms.specs.Tree.{path_from}

pub least_signatures : (height : Height) → 1024 ≤ signatures_of height
least_signatures H5 = omega arith
least_signatures H10 = omega arith

pub few_signatures : (height : Height) → signatures_of height ≤ 1048576
few_signatures H5 = omega arith
few_signatures H10 = omega arith

pub few_bytes : (height : Height) (ots : OtsType) → 60 + 2 * signature_len_of height ots ≤ 5076
few_bytes H5 W4 = omega arith
few_bytes H5 W8 = omega arith
few_bytes H10 W4 = omega arith
few_bytes H10 W8 = omega arith

level_long : (k : KeyState) (text : List ℕ) → length (signature_of k text) ≡ signature_len_of k.height k.ots
unfolding signature_of
level_long k text =
    let h = levels_of k.height in
    let one = one_time.signature_of k.ots k.id k.next k.seed text in
    let type = to_be_bytes w32 (type_number_of k.height) in
    let path = concat (path_from k.ots k.id k.seed h 0 h (2 ^ h + k.next)) in
    let q = to_be_bytes w32 k.next in
    omega (
      arith,
      length-append q one,
      length-append (q ++ one) type,
      length-append ((q ++ one) ++ type) path,
      (Verifies-signature k.ots k.id k.next k.seed text).0.0,
      length-path_from k.ots k.id k.seed h 0 h (2 ^ h + k.next),
    )

some_leaf : (height : Height) → 0 < 2 ^ levels_of height
some_leaf H5 = omega arith
some_leaf H10 = omega arith

lower_public_long : (k : KeyState) (q : ℕ) → length (public_of (key_under k q)) ≡ 56
lower_public_long k q =
    let long = length-sha256 (4 ∷ k.seed ++ to_be_bytes w32 q) in
    let sized : length (id_under k.seed q) ≡ 16 = length-take-le 16 (sha256 (4 ∷ k.seed ++ to_be_bytes w32 q)) (omega (arith, long)) in
    (VerifiesAs-signature (key_under k q) [] sized (some_leaf k.height)).key_len

pub signature_long : (k : KeyState) (text : List ℕ) → length (hss_signature_of k text) ≡ 60 + 2 * signature_len_of k.height k.ots
unfolding hss_signature_of
signature_long k text =
    let first = to_be_bytes w32 1 in
    let lower = key_under k (top_leaf k) in
    let public = public_of lower in
    let top = signature_of (at_leaf k (top_leaf k)) public in
    let last = signature_of (at_leaf lower (lower_leaf k)) text in
    let four : length first ≡ 4 = refl in
    omega (
      arith,
      length-append top public,
      length-append first (top ++ public),
      length-append (first ++ (top ++ public)) last,
      four,
      level_long (at_leaf k (top_leaf k)) public,
      level_long (at_leaf lower (lower_leaf k)) text,
      lower_public_long k (top_leaf k),
    )

-- far shorter than a statement allows
pub signature_short : (k : KeyState) (text : List ℕ) → length (hss_signature_of k text) ≤ 8192
signature_short k text = omega (arith, signature_long k text, few_bytes k.height k.ots)
