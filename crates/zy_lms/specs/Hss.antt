-- Two levels of LMS keys: HSS with L = 2 (RFC 8554, section 6). Each leaf of the top key signs the public key of a lower key, whose
-- leaves sign messages. Such a key is seen as its top key, whose `next` counts the signatures of both levels.
use Rattle.std.specs.Prelude.{◌≡◌, ℕ, ◌+◌, ◌/◌, ◌%◌, ◌^◌, ◌≤◌, ◌==◌, ◌&&◌, Bool, false, Option, Some, None, List, ◌∷◌, ◌++◌, length, take, drop}
use Rattle.std.specs.Int.{w32, to_be_bytes}
use Rattle.sha2.specs.Sha256.{sha256}
use Rattle.zy_ots.specs.declared.ots_type.OtsType.{OtsType}
use Rattle.zy_ots.specs.OtsType.{type_with}
use Rattle.zy_ots.specs.Coef.{number_at}
use Rattle.zy_lms.specs.declared.height.Height.{Height}
use Rattle.zy_lms.specs.Height.{height_with, levels_of, signatures_of}
use Rattle.zy_lms.specs.KeyState.{KeyState, at_leaf}
use Rattle.zy_lms.specs.Lms.{public_of, signature_of, signature_len_of, Verifies, verified}

-- what holds of each key: its identifier has 16 bytes, and the next signature is one of its signatures or the number behind the last
pub record IsHssKey (k : KeyState) : Type 0 where
  pub id_len : length k.id ≡ 16
  pub within : k.next ≤ signatures_of k.height

-- the leaf of the top key under which the next signature lies, and the lower key's leaf that gives it
abbrev pub top_leaf : KeyState → ℕ
top_leaf k = k.next / 2 ^ levels_of k.height

abbrev pub lower_leaf : KeyState → ℕ
lower_leaf k = k.next % 2 ^ levels_of k.height

-- ---- the lower keys, whose choice the standard leaves to the signer

-- SHA-256 of the byte 3, the top key's seed and the top leaf's number
abbrev pub seed_under : List ℕ → ℕ → List ℕ
seed_under seed q = sha256 (3 ∷ seed ++ to_be_bytes w32 q)

-- the first 16 bytes of SHA-256 of the byte 4, the top key's seed and the top leaf's number
abbrev pub id_under : List ℕ → ℕ → List ℕ
id_under seed q = take 16 (sha256 (4 ∷ seed ++ to_be_bytes w32 q))

-- the lower key under a top leaf, of the top key's types, at its first leaf
abbrev pub key_under : KeyState → ℕ → KeyState
key_under k q = record { seed = seed_under k.seed q; id = id_under k.seed q; height = k.height; ots = k.ots; next = 0 }

-- ---- public keys and signatures

-- the public key (6.1): u32str(L) || pub[0]
unfoldable pub hss_public_of : KeyState → List ℕ
hss_public_of k = to_be_bytes w32 2 ++ public_of k

-- signed_pub_key[0] under a top leaf (6.2): the top key's signature of the lower public key, and that key
abbrev pub signed_key_of : KeyState → ℕ → List ℕ
signed_key_of k q = signature_of (at_leaf k q) (public_of (key_under k q)) ++ public_of (key_under k q)

-- the next signature of a message (6.2): u32str(L - 1) || signed_pub_key[0] || sig[1]
unfoldable pub hss_signature_of : KeyState → List ℕ → List ℕ
hss_signature_of k message =
    to_be_bytes w32 1 ++ signed_key_of k (top_leaf k) ++ signature_of (at_leaf (key_under k (top_leaf k)) (lower_leaf k)) message

-- the top leaf that a signature tells, behind its first number
abbrev pub top_leaf_in : List ℕ → ℕ
top_leaf_in signature = number_at signature 4

-- signed_pub_key[0] in a signature by a key of these types, and the lower leaf that it tells behind that
abbrev pub signed_key_in : Height → OtsType → List ℕ → List ℕ
signed_key_in height ots signature = take (56 + signature_len_of height ots) (drop 4 signature)

abbrev pub lower_leaf_in : Height → OtsType → List ℕ → ℕ
lower_leaf_in height ots signature = number_at signature (60 + signature_len_of height ots)

-- ---- verification

-- the signature of the message is valid under the public key (6.3): both tell two levels, and behind its number the signature has a
-- signature of a lower public key, that key, and a signature of the message by it
pub record HssVerifies (public message signature : List ℕ) : Type 0 where
  pub top_signature : List ℕ
  pub lower_public : List ℕ
  pub lower_signature : List ℕ
  pub levels : number_at public 0 ≡ 2
  pub signed_keys : number_at signature 0 ≡ 1
  pub parts : drop 4 signature ≡ top_signature ++ (lower_public ++ lower_signature)
  pub top : Verifies (drop 4 public) lower_public top_signature
  pub lower : Verifies lower_public message lower_signature

-- the length of signatures under an LMS public key, if it tells types
abbrev pub len_with : Option Height → Option OtsType → Option ℕ
len_with (Some height) (Some ots) = Some (signature_len_of height ots)
len_with (Some height) None = None
len_with None ots = None

abbrev pub len_under : List ℕ → Option ℕ
len_under public = len_with (height_with (number_at public 0)) (type_with (number_at public 4))

-- the same as a test: what stands behind the first number is cut by the length of the top key's signatures
abbrev pub verified_in_parts : ℕ → List ℕ → List ℕ → List ℕ → Bool
verified_in_parts len top message parts =
    let lower = take 56 (drop len parts) in
    verified top lower (take len parts) && verified lower message (drop 56 (drop len parts))

abbrev pub verified_below : Option ℕ → List ℕ → List ℕ → List ℕ → Bool
verified_below None top message signature = false
verified_below (Some len) top message signature =
    (number_at signature 0 == 1) && verified_in_parts len top message (drop 4 signature)

-- whether the signature of the message is valid under the public key
unfoldable pub hss_verified : List ℕ → List ℕ → List ℕ → Bool
hss_verified public message signature =
    (number_at public 0 == 2) && verified_below (len_under (drop 4 public)) (drop 4 public) message signature

-- ---- what is kept

-- the lower key under a leaf of the top key, with its signature by that leaf
pub record IsLowerKey (top : KeyState) (leaf : ℕ) (key : KeyState) (signed : List ℕ) : Type 0 where
  pub key_is : key ≡ key_under top leaf
  pub signed_is : signed ≡ signed_key_of top leaf
