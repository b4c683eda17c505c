-- A signature of the next leaf verifies under the key's public key, and the parts of both.
use Rattle.std.proofs.Common.{arith, ◌≡◌, ◌-◌, ◌≤◌, ◌<◌, ◌++◌, length, ℕ, ◌+◌, ◌*◌, ◌/◌, ◌^◌, List, take, drop, sym, ◌∙◌, ap, refl, length-append, append_assoc, zero-add}
use Rattle.std.specs.Int.{w32, to_be_bytes}
use Rattle.std.specs.List.{concat}
use Rattle.std.proofs.lemmas.List.{take_at, drop_at}
use Rattle.std.proofs.lemmas.Nat.{shr_high, from_be_bytes-to_be_bytes_4}
use Rattle.zy_ots.specs.declared.ots_type.OtsType.{OtsType}
use Rattle.zy_ots.specs.declared.ots_type.OtsType.TheVariants.{W4, W8}
use Rattle.zy_ots.specs.OtsType as OtsType
use Rattle.zy_ots.specs.Coef.{number_at}
use Rattle.zy_ots.specs.OneTime as OneTime
use Rattle.zy_ots.proofs.OneTimeLemmas.{Verifies-signature}
use Rattle.zy_ots.proofs.NumberLemmas.{number_at-spelled}
use Rattle.zy_lms.specs.declared.height.Height.{Height}
use Rattle.zy_lms.specs.declared.height.Height.TheVariants.{H5, H10}
use Rattle.zy_lms.specs.Height.{type_number_of, levels_of}
use Rattle.zy_lms.specs.Tree.{leaf_node, root_of, tree_node, path_from, climb, nodes_in}
use Rattle.zy_lms.specs.KeyState.{KeyState}
use Rattle.zy_lms.specs.Lms.{public_of, signature_of, signature_len_of, leaf_of, ots_part, candidate_root, VerifiesAs}
use Rattle.zy_lms.proofs.TreeLemmas.{length-tree_node, length-path_from, nodes_in-path_from, climb-path_from}

height_number_fits : (height : Height) → type_number_of height < 2 ^ 32
height_number_fits H5 = omega arith
height_number_fits H10 = omega arith

ots_number_fits : (ots : OtsType) → OtsType.number_of ots < 2 ^ 32
ots_number_fits W4 = omega arith
ots_number_fits W8 = omega arith

leaves_fit : (height : Height) → 2 ^ levels_of height ≤ 1024
leaves_fit H5 = omega arith
leaves_fit H10 = omega arith

module _ (k : KeyState) (message : List ℕ) (sized : length k.id ≡ 16) (left : k.next < 2 ^ levels_of k.height) where
  height_bytes : List ℕ
  height_bytes = to_be_bytes w32 (type_number_of k.height)

  ots_bytes : List ℕ
  ots_bytes = to_be_bytes w32 (OtsType.number_of k.ots)

  root : List ℕ
  root = root_of k.ots k.id k.seed (levels_of k.height)

  ots_signature : List ℕ
  ots_signature = OneTime.signature_of k.ots k.id k.next k.seed message

  path : List (List ℕ)
  path = path_from k.ots k.id k.seed (levels_of k.height) 0 (levels_of k.height) (2 ^ levels_of k.height + k.next)

  -- ---- the public key

  public_is : public_of k ≡ height_bytes ++ (ots_bytes ++ (k.id ++ root))
  unfolding public_of height_bytes ots_bytes root
  public_is = append_assoc (height_bytes ++ ots_bytes) k.id root ∙ append_assoc height_bytes ots_bytes (k.id ++ root)

  length-root : length root ≡ 32
  unfolding root
  length-root = length-tree_node k.ots k.id k.seed (levels_of k.height) (levels_of k.height) 1

  key_len : length (public_of k) ≡ 56
  unfolding height_bytes ots_bytes
  key_len = rw public_is (omega (arith, length-append k.id root, length-root))

  id_of : take 16 (drop 8 (public_of k)) ≡ k.id
  unfolding height_bytes ots_bytes
  id_of = rw public_is (take_at k.id root 16 sized)

  root_is : drop 24 (public_of k) ≡ root
  unfolding height_bytes ots_bytes
  root_is = rw public_is (drop_at k.id root 16 sized)

  key_type : number_at (public_of k) 0 ≡ type_number_of k.height
  unfolding height_bytes
  key_type = ap (λ s. number_at s 0) public_is ∙ from_be_bytes-to_be_bytes_4 (type_number_of k.height) (height_number_fits k.height)

  key_ots : number_at (public_of k) 4 ≡ OtsType.number_of k.ots
  unfolding height_bytes ots_bytes
  key_ots = ap (λ s. number_at s 4) public_is ∙ from_be_bytes-to_be_bytes_4 (OtsType.number_of k.ots) (ots_number_fits k.ots)

  -- ---- the signature

  front : List ℕ
  front = to_be_bytes w32 k.next ++ ots_signature

  signature_is : signature_of k message ≡ front ++ (height_bytes ++ concat path)
  unfolding signature_of front ots_signature height_bytes path
  signature_is = append_assoc (to_be_bytes w32 k.next ++ ots_signature) height_bytes (concat path)

  ots_verifies : OneTime.Verifies k.ots k.id k.next message ots_signature (OneTime.public_of k.ots k.id k.next k.seed)
  unfolding ots_signature
  ots_verifies = Verifies-signature k.ots k.id k.next k.seed message

  length-front : length front ≡ 4 + OtsType.signature_len_of k.ots
  unfolding front
  length-front = omega (arith, length-append (to_be_bytes w32 k.next) ots_signature, ots_verifies.0.0)

  length-path : length (concat path) ≡ 32 * levels_of k.height
  unfolding path
  length-path = length-path_from k.ots k.id k.seed (levels_of k.height) 0 (levels_of k.height) (2 ^ levels_of k.height + k.next)

  length-height_bytes : length height_bytes ≡ 4
  unfolding height_bytes
  length-height_bytes = refl

  signature_len : length (signature_of k message) ≡ signature_len_of k.height k.ots
  signature_len =
      rw signature_is
      (omega (arith, length-append front (height_bytes ++ concat path), length-append height_bytes (concat path), length-front, length-height_bytes, length-path))

  next_fits : k.next < 2 ^ 32
  next_fits = let few = leaves_fit k.height in omega arith

  pub leaf_is : leaf_of (signature_of k message) ≡ k.next
  unfolding front
  leaf_is = ap (λ s. number_at s 0) signature_is ∙ from_be_bytes-to_be_bytes_4 k.next next_fits

  ots_part_is : ots_part k.ots (signature_of k message) ≡ ots_signature
  unfolding front
  ots_part_is =
      ap (λ s. ots_part k.ots s) signature_is
      ∙ take_at ots_signature (height_bytes ++ concat path) (OtsType.signature_len_of k.ots) ots_verifies.0.0

  type_is : number_at (signature_of k message) (4 + OtsType.signature_len_of k.ots) ≡ type_number_of k.height
  unfolding height_bytes
  type_is =
      ap (λ s. number_at s (4 + OtsType.signature_len_of k.ots)) signature_is
      ∙ number_at-spelled front (concat path) (type_number_of k.height) (4 + OtsType.signature_len_of k.ots) length-front (height_number_fits k.height)

  path_is : drop (8 + OtsType.signature_len_of k.ots) (signature_of k message) ≡ concat path
  path_is =
      ap (drop (8 + OtsType.signature_len_of k.ots)) (signature_is ∙ sym (append_assoc front height_bytes (concat path)))
      ∙ drop_at (front ++ height_bytes) (concat path) (8 + OtsType.signature_len_of k.ots)
      (omega (arith, length-append front height_bytes, length-front, length-height_bytes))

  -- the leaf's place is the node whose one-time key signed
  leaf_value : leaf_node k.id (2 ^ levels_of k.height + k.next) (OneTime.public_of k.ots k.id k.next k.seed)
      ≡ tree_node k.ots k.id k.seed (levels_of k.height) 0 (2 ^ levels_of k.height + k.next)
  unfolding tree_node
  leaf_value =
      let number : 2 ^ levels_of k.height + k.next - 2 ^ levels_of k.height ≡ k.next = omega arith in
      rw number refl

  climbs : climb k.id (2 ^ levels_of k.height + k.next) (leaf_node k.id (2 ^ levels_of k.height + k.next) (OneTime.public_of k.ots k.id k.next k.seed)) (nodes_in (levels_of k.height) (concat path))
      ≡ root
  unfolding path root
  climbs =
      let h = levels_of k.height in
      let r = 2 ^ h + k.next in
      let turned : 1 * 2 ^ h + k.next ≡ r = omega arith in
      let top : r / 2 ^ h ≡ 1 = rw turned at (shr_high 1 h k.next left) in
      rw (leaf_value, nodes_in-path_from k.ots k.id k.seed h 0 h r)
      (climb-path_from k.ots k.id k.seed h 0 h r (omega arith) ∙ rw (zero-add h, top) refl)

  root_led_to : candidate_root k.height k.ots (take 16 (drop 8 (public_of k))) message (signature_of k message) ≡ drop 24 (public_of k)
  root_led_to =
      rw (id_of, root_is, leaf_is, ots_part_is, path_is, ots_verifies.1) climbs

  pub VerifiesAs-signature : VerifiesAs k.height k.ots (public_of k) message (signature_of k message)
  VerifiesAs-signature = record {
    key_len = key_len;
    key_type = key_type;
    key_ots = key_ots;
    len = signature_len;
    leaf = rw leaf_is left;
    ots_form = rw ots_part_is ots_verifies.0;
    type = type_is;
    root = root_led_to;
  }

-- four parts behind a front
pub four_behind : (front a b c d : List ℕ) → front ++ a ++ b ++ c ++ d ≡ front ++ (a ++ b ++ c ++ d)
four_behind front a b c d = simp append_assoc
