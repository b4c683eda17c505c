-- What a world may begin with.
use Rattle.std.specs.Prelude.{ℕ, ◌≡◌, ◌<◌, ◌≤◌, List, length, nat_eq, map}
use Rattle.std.specs.List.{AllByRecursion, IsDistinct, range_with_len}
use Rattle.zy_base.specs.declared.ids.Party.TheVariants.{Replica, Client}
use Rattle.zy_seal.specs.Sealing.{SealerState}
use Rattle.zy_world_law.specs.Setup.{Setup, sealer_of}

-- different numbers below n
abbrev pub AreNumbersBelow : ℕ → List ℕ → Type 0
AreNumbersBelow n numbers = AllByRecursion (λ id. id < n) numbers × IsDistinct nat_eq numbers

-- at most 13 replicas, of which at most f lie, and at most 64 clients
pub record IsStart (s : Setup) : Type 0 where
  pub replicas : s.counts.n ≤ 13
  pub least_interval : 4 ≤ s.interval
  pub greatest_interval : s.interval ≤ 32
  pub some_client : 1 ≤ s.clients
  pub clients : s.clients ≤ 64
  pub few : length s.liars ≤ s.counts.f
  pub liars : AreNumbersBelow s.counts.n s.liars
  pub lying_clients : AreNumbersBelow s.clients s.lying_clients
  pub seed : length s.seed ≡ 32

-- each replica with its key at signature 0, in the order of the numbers
abbrev pub replica_sealers : Setup → List SealerState
replica_sealers s = map (λ id. sealer_of s (Replica (record { 0 = id })) 0) (range_with_len 0 s.counts.n)

-- each client likewise
abbrev pub client_sealers : Setup → List SealerState
client_sealers s = map (λ id. sealer_of s (Client (record { 0 = id })) 0) (range_with_len 0 s.clients)
