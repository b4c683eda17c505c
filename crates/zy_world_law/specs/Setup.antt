-- What a world begins with, and the keys of its parties.
use Rattle.std.specs.Prelude.{ℕ, ◌<◌, ◌≤◌, List, map, length}
use Rattle.std.specs.List.{range_with_len}
use Rattle.zy_base.specs.declared.counts.Counts.{Counts}
use Rattle.zy_base.specs.declared.ids.Party.{Party}
use Rattle.zy_base.specs.declared.ids.Party.TheVariants.{Replica, Client}
use Rattle.zy_ots.specs.declared.ots_type.OtsType.{OtsType}
use Rattle.zy_lms.specs.declared.height.Height.{Height}
use Rattle.zy_lms.specs.KeyState.{KeyState}
use Rattle.zy_lms.specs.Hss.{hss_public_of}
use Rattle.zy_seal.specs.Derived.{seed_of, id_of}
use Rattle.zy_seal.specs.Keys.{Keys}
use Rattle.zy_seal.specs.Sealing.{SealerState}

pub record Setup : Type 0 where
  pub counts : Counts
  -- how many places lie between two checkpoints
  pub interval : ℕ
  -- how many clients there are
  pub clients : ℕ
  -- the replicas and the clients that lie
  pub liars : List ℕ
  pub lying_clients : List ℕ
  -- what all keys are derived from
  pub seed : List ℕ
  pub height : Height
  pub ots : OtsType

-- At most f replicas lie, there are at most 64 clients, and from one to 32 places lie between two checkpoints, so that a report
-- has room for what lies above the last stable one.
pub record IsSetup (s : Setup) : Type 0 where
  pub few : length s.liars ≤ s.counts.f
  pub clients : s.clients ≤ 64
  pub least_interval : 0 < s.interval
  pub greatest_interval : s.interval ≤ 32

-- a party's key, derived from the seed, whose next signature has this number
abbrev pub key_of_party : Setup → Party → ℕ → KeyState
key_of_party s party number =
    record { seed = seed_of s.seed party; id = id_of s.seed party; height = s.height; ots = s.ots; next = number }

abbrev pub sealer_of : Setup → Party → ℕ → SealerState
sealer_of s party number = record { me = party; key = key_of_party s party number }

abbrev pub public_key_of : Setup → Party → List ℕ
public_key_of s party = hss_public_of (key_of_party s party 0)

-- the public keys of all parties
unfoldable pub keys_of : Setup → Keys
keys_of s =
    record {
      replicas = map (λ id. public_key_of s (Replica (record { 0 = id }))) (range_with_len 0 s.counts.n);
      clients = map (λ id. public_key_of s (Client (record { 0 = id }))) (range_with_len 0 s.clients);
    }
