-- Correct parties that are taken out of their seats and come back.
use Rattle.std.proofs.Common.{◌≡◌, ℕ, List, Option, None, ap}
use Rattle.std.specs.Prelude.{slice_get}
use Rattle.zy_table.specs.ClientState.{ClientState}
use Rattle.zy_table.specs.State.{State}
use Rattle.zy_world.specs.Shown.{Seated, with_replica, with_client}
use Rattle.zy_world_law.specs.World.{correct_in}
use Rattle.zy_world.proofs.SeatLemmas.{set_set, set_none}

module _ {S : Type 0} (s : Seated S) (id : ℕ) where
  abbrev with_replicas : List (Option (State S)) → Seated S
  with_replicas xs = record s { replicas = xs }

  abbrev with_clients : List (Option ClientState) → Seated S
  with_clients xs = record s { clients = xs }

  pub replica_again : (a b : Option (State S)) → with_replica (with_replica s id a) id b ≡ with_replica s id b
  replica_again a b = ap with_replicas (set_set s.replicas id a b)

  pub no_replica : correct_in (slice_get s.replicas id) ≡ None → with_replica s id None ≡ s
  no_replica is = ap with_replicas (set_none s.replicas id is)

  pub client_again : (a b : Option ClientState) → with_client (with_client s id a) id b ≡ with_client s id b
  client_again a b = ap with_clients (set_set s.clients id a b)

  pub no_client : correct_in (slice_get s.clients id) ≡ None → with_client s id None ≡ s
  no_client is = ap with_clients (set_none s.clients id is)
