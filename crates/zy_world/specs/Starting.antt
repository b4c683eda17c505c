-- Who sits in each seat at the start.
use Rattle.std.specs.Prelude.{ℕ, nat_eq, if◌then◌else◌, Option, Some, None}
use Rattle.std.specs.List.{list_any}
use Rattle.zy_base.specs.Machine.{Rules}
use Rattle.zy_base.specs.declared.ids.Party.TheVariants as parties
use Rattle.zy_seal.specs.Keys.{Keys}
use Rattle.zy_seal.specs.Sealing.{SealerState}
use Rattle.zy_table.specs.ClientState.{ClientState, client_start}
use Rattle.zy_table.specs.State.{State, start_of}
use Rattle.zy_world_law.specs.Setup.{Setup, sealer_of}

abbrev pub replica_seat : {S : Type 0} → Rules S → Setup → Keys → ℕ → Option (State S)
replica_seat R setup keys id =
    if list_any (nat_eq id) setup.liars then None
    else Some (start_of R setup.interval (record { 0 = id }) setup.counts keys (sealer_of setup (parties.Replica (record { 0 = id })) 0))

abbrev pub client_seat : Setup → Keys → ℕ → Option ClientState
client_seat setup keys id =
    if list_any (nat_eq id) setup.lying_clients then None
    else Some (client_start (record { 0 = id }) setup.counts keys (sealer_of setup (parties.Client (record { 0 = id })) 0) (record { 0 = 0 }))

-- the key of a party that lies
abbrev pub replica_key : Setup → ℕ → Option SealerState
replica_key setup id = if list_any (nat_eq id) setup.liars then Some (sealer_of setup (parties.Replica (record { 0 = id })) 0) else None

abbrev pub client_key : Setup → ℕ → Option SealerState
client_key setup id = if list_any (nat_eq id) setup.lying_clients then Some (sealer_of setup (parties.Client (record { 0 = id })) 0) else None
