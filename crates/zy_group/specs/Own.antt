-- The key of a party of a group.
use Rattle.std.specs.Prelude.{ℕ, ◌*◌, ◌^◌, Bool, if◌then◌else◌, List, Option, Some, None, Result, Ok}
use Rattle.std.specs.Str.{bytes_eq}
use Rattle.zy_base.specs.declared.ids.Party.{Party}
use Rattle.zy_lms.specs.KeyState.{KeyState}
use Rattle.zy_lms.specs.Height.{levels_of}
use Rattle.zy_lms.specs.Hss.{hss_public_of}
use Rattle.zy_lms.specs.declared.height.Height.{Height}
use Rattle.zy_seal.specs.Keys.{Keys, key_of}
use Rattle.zy_group.specs.Reading.{field}
use Rattle.zy_group.specs.declared.secret.Secret.{Secret}
use Rattle.zy_group.specs.declared.secret.Version.{Version}
use Rattle.zy_group.specs.declared.secret.Version.TheVariants.{OneLevel, TwoLevels}

-- the number of the next signature. A file of one level tells the next leaf of a key that may have signed with those before it: that
-- key becomes the top one, which signs a lower key by that leaf.
abbrev pub number_from : Version → Height → ℕ → ℕ
number_from OneLevel height next = next * 2 ^ levels_of height
number_from TwoLevels height next = next

-- the key that a secret tells of
abbrev pub key_state : Secret → KeyState
key_state secret =
    record {
      seed = secret.seed;
      id = secret.id;
      height = secret.height;
      ots = secret.ots;
      next = number_from secret.version secret.height secret.next;
    }

abbrev pub is_own : List ℕ → KeyState → Bool
is_own public key = bytes_eq public (hss_public_of key)

-- the group has a key of the party, and that is this one
abbrev pub owned : Option (List ℕ) → KeyState → Option KeyState
owned None key = None
owned (Some public) key = if is_own public key then Some key else None

abbrev pub own_key : Party → Keys → Secret → Result KeyState ℕ
own_key by keys secret = field 18 (owned (key_of keys by) (key_state secret)) Ok
