-- What callers see of an LMS key.
use Rattle.std.specs.Prelude.{◌≡◌, ℕ, ◌^◌, ◌≤◌, List, length}
use Rattle.zy_ots.specs.declared.ots_type.OtsType.{OtsType}
use Rattle.zy_lms.specs.declared.height.Height.{Height}
use Rattle.zy_lms.specs.Height.{levels_of}

-- the secret seed, the identifier I, the tree's height, the type of its one-time keys, and the number
-- of the next leaf
pub record KeyState : Type 0 where
  pub seed : List ℕ
  pub id : List ℕ
  pub height : Height
  pub ots : OtsType
  pub next : ℕ

-- what holds of each key: its identifier has 16 bytes, and the next leaf is one of its leaves or the
-- number behind the last
pub record IsKey (k : KeyState) : Type 0 where
  pub id_len : length k.id ≡ 16
  pub within : k.next ≤ 2 ^ levels_of k.height

-- the same key at another leaf
abbrev pub at_leaf : KeyState → ℕ → KeyState
at_leaf k q = record k { next = q }
