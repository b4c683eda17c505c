-- A party that signs statements with its own key.
use Rattle.std.specs.Prelude.{◌≡◌, ℕ, ◌+◌, ◌-◌, ◌*◌, ◌^◌, ◌≤◌, ◌&&◌, nat_le, nat_lt, if◌then◌else◌, List, length, Option, Some, None, option_and_then}
use Rattle.zy_base.specs.declared.ids.Party.{Party}
use Rattle.zy_wire.specs.Spelling.{Spelling}
use Rattle.zy_ots.specs.declared.ots_type.OtsType.{OtsType}
use Rattle.zy_ots.specs.OtsType as one_time
use Rattle.zy_ots.specs.Coef.{number_at}
use Rattle.zy_lms.specs.declared.height.Height.{Height}
use Rattle.zy_lms.specs.Height.{height_with, levels_of, signatures_of}
use Rattle.zy_lms.specs.KeyState.{KeyState}
use Rattle.zy_lms.specs.Lms.{signature_len_of}
use Rattle.zy_lms.specs.Hss.{HssVerifies, hss_public_of, hss_signature_of, top_leaf_in}
use Rattle.zy_parts.specs.declared.signed.Signed.{Signed}
use Rattle.zy_parts.specs.Signing.{text_of}

pub record SealerState : Type 0 where
  pub me : Party
  pub key : KeyState

-- how many signatures a key of this height gives, and how many of them a party has left. Whoever counts signatures counts by these.
abbrev pub signatures_by : Height → ℕ
signatures_by height = signatures_of height

abbrev pub left_of : SealerState → ℕ
left_of sealer = signatures_by sealer.key.height - sealer.key.next

-- the length of each signature by a key of these types: a number, the signature of a lower public key, that key of 56 bytes, and the
-- signature by it (RFC 8554, section 6.2)
abbrev pub signature_size : Height → OtsType → ℕ
signature_size height ots = 60 + 2 * signature_len_of height ots

-- ---- the number that a signature tells, of those that its key gives

-- the number in the four bytes at this place, if they are there
abbrev pub number_there : List ℕ → ℕ → Option ℕ
number_there bytes place = if nat_le (place + 4) (length bytes) then Some (number_at bytes place) else None

-- the types of the top key, as its signature tells them behind the first number and its leaf (5.4)
abbrev pub ots_told : List ℕ → Option OtsType
ots_told signature = option_and_then one_time.type_with (number_there signature 8)

abbrev pub height_told : List ℕ → OtsType → Option Height
height_told signature ots = option_and_then height_with (number_there signature (8 + one_time.signature_len_of ots))

-- by these leaves of both levels: the signatures under one top leaf are as many as a tree has leaves
abbrev pub number_of_leaves : ℕ → ℕ → ℕ → Option ℕ
number_of_leaves leaves top lower = if nat_lt top leaves && nat_lt lower leaves then Some (top * leaves + lower) else None

abbrev pub number_by : Height → OtsType → List ℕ → Option ℕ
number_by height ots signature =
    option_and_then (number_of_leaves (2 ^ levels_of height) (top_leaf_in signature)) (number_there signature (60 + signature_len_of height ots))

-- none where it tells no types that are spoken here, is too short to tell a lower leaf, or tells a leaf that its trees don't have
abbrev pub number_told : List ℕ → Option ℕ
number_told signature =
    option_and_then (λ ots. option_and_then (λ height. number_by height ots signature) (height_told signature ots)) (ots_told signature)

-- ---- what is sealed

-- the statement with the party's next signature on its signed text
abbrev pub sealed_by : {S : Type 0} → ℕ → Spelling S → SealerState → S → Signed S
sealed_by number fields sealer stmt =
    record { by = sealer.me; stmt = stmt; sig = hss_signature_of sealer.key (text_of number fields sealer.me stmt) }

-- the statement as the party signs it: with the next signature, which verifies under the own key
pub record IsSealed {S : Type 0} (number : ℕ) (fields : Spelling S) (sealer : SealerState) (stmt : S) (signed : Signed S) : Type 0 where
  pub signer : signed.by ≡ sealer.me
  pub body : signed.stmt ≡ stmt
  pub told : number_told signed.sig ≡ Some sealer.key.next
  pub verifies : HssVerifies (hss_public_of sealer.key) (text_of number fields sealer.me stmt) signed.sig
  pub short : length signed.sig ≤ 8192

-- the sealer with one signature spent
abbrev pub spent_one : SealerState → SealerState
spent_one sealer = record sealer { key = record sealer.key { next = sealer.key.next + 1 } }
