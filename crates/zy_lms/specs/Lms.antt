-- LMS public keys, signatures and their verification (RFC 8554, sections 5.3 and 5.4).
use Rattle.std.specs.Prelude.{◌≡◌, ℕ, ◌+◌, ◌*◌, ◌<◌, ◌^◌, ◌==◌, ◌&&◌, nat_lt, Bool, false, Option, Some, None, List, ◌++◌, length, take, drop}
use Rattle.std.specs.List.{concat}
use Rattle.std.specs.Int.{w32, to_be_bytes}
use Rattle.std.specs.Str.{bytes_eq}
use Rattle.zy_ots.specs.declared.ots_type.OtsType.{OtsType}
use Rattle.zy_ots.specs.OtsType as OtsType
use Rattle.zy_ots.specs.Coef.{number_at}
use Rattle.zy_ots.specs.OneTime.{HasForm, has_form, candidate_of}
use Rattle.zy_ots.specs.OneTime as OneTime
use Rattle.zy_lms.specs.declared.height.Height.{Height}
use Rattle.zy_lms.specs.Height.{type_number_of, height_with, levels_of}
use Rattle.zy_lms.specs.Tree.{leaf_node, root_of, path_from, climb, nodes_in}
use Rattle.zy_lms.specs.KeyState.{KeyState}

-- the public key (5.3): u32str(type) || u32str(otstype) || I || T[1]
unfoldable pub public_of : KeyState → List ℕ
public_of k =
    to_be_bytes w32 (type_number_of k.height) ++ to_be_bytes w32 (OtsType.number_of k.ots) ++ k.id
    ++ root_of k.ots k.id k.seed (levels_of k.height)

-- the signature of a message by the next leaf (5.4.1):
-- u32str(q) || ots_signature || u32str(type) || path[0] || .. || path[h-1]
unfoldable pub signature_of : KeyState → List ℕ → List ℕ
signature_of k message =
    let h = levels_of k.height in
    to_be_bytes w32 k.next ++ OneTime.signature_of k.ots k.id k.next k.seed message
    ++ to_be_bytes w32 (type_number_of k.height) ++ concat (path_from k.ots k.id k.seed h 0 h (2 ^ h + k.next))

-- the length of a signature in bytes (5.4)
abbrev pub signature_len_of : Height → OtsType → ℕ
signature_len_of height ots = 8 + OtsType.signature_len_of ots + 32 * levels_of height

-- q, the leaf's number that a signature tells
abbrev pub leaf_of : List ℕ → ℕ
leaf_of signature = number_at signature 0

-- the one-time signature in a signature
abbrev pub ots_part : OtsType → List ℕ → List ℕ
ots_part ots signature = take (OtsType.signature_len_of ots) (drop 4 signature)

-- Tc, the root that a message and a signature lead to under the identifier id (5.4.2, algorithm 6a)
abbrev pub candidate_root : Height → OtsType → List ℕ → List ℕ → List ℕ → List ℕ
candidate_root height ots id message signature =
    let h = levels_of height in
    let q = leaf_of signature in
    let r = 2 ^ h + q in
    climb id r (leaf_node id r (candidate_of ots id q message (ots_part ots signature)))
    (nodes_in h (drop (8 + OtsType.signature_len_of ots) signature))

-- the signature of the message is valid under a public key of these types (5.4.2, algorithm 6)
pub record VerifiesAs (height : Height) (ots : OtsType) (public message signature : List ℕ) : Type 0 where
  pub key_len : length public ≡ 56
  pub key_type : number_at public 0 ≡ type_number_of height
  pub key_ots : number_at public 4 ≡ OtsType.number_of ots
  pub len : length signature ≡ signature_len_of height ots
  pub leaf : leaf_of signature < 2 ^ levels_of height
  pub ots_form : HasForm ots (ots_part ots signature)
  pub type : number_at signature (4 + OtsType.signature_len_of ots) ≡ type_number_of height
  pub root : candidate_root height ots (take 16 (drop 8 public)) message signature ≡ drop 24 public

-- the signature of the message is valid under the public key
abbrev pub Verifies : List ℕ → List ℕ → List ℕ → Type 0
Verifies public message signature =
    (height : Height) × (ots : OtsType) × VerifiesAs height ots public message signature

-- the same as a test: first under the types that the public key tells, if it tells such
abbrev pub verified_as : Option Height → Option OtsType → List ℕ → List ℕ → List ℕ → Bool
verified_as (Some height) (Some ots) public message signature =
    (length public == 56)
    && (length signature == signature_len_of height ots)
    && nat_lt (leaf_of signature) (2 ^ levels_of height)
    && has_form ots (ots_part ots signature)
    && (number_at signature (4 + OtsType.signature_len_of ots) == type_number_of height)
    && bytes_eq (candidate_root height ots (take 16 (drop 8 public)) message signature) (drop 24 public)
verified_as (Some height) None public message signature = false
verified_as None ots public message signature = false

-- whether the signature of the message is valid under the public key
unfoldable pub verified : List ℕ → List ℕ → List ℕ → Bool
verified public message signature =
    verified_as (height_with (number_at public 0)) (OtsType.type_with (number_at public 4)) public message signature
