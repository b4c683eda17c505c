use Rattle.std.proofs.Common.{List, Option, length, map, ap, ap₂, ◌∙◌, arith}
use Rattle.std.specs.List.{range_with_len}
use Rattle.std.proofs.lemmas.List.FromFn.{length-map-range_with_len}
use Rattle.zy_base.specs.declared.ids.ClientId.{ClientId}
use Rattle.zy_base.specs.declared.ids.Party.TheVariants as parties
use Rattle.zy_base.specs.declared.ids.ReplicaId.{ReplicaId}
use Rattle.zy_seal.specs.Keys.{Keys}
use Rattle.zy_seal.specs.Sealing.{SealerState}
use Rattle.zy_table.specs.ClientState.{ClientState}
use Rattle.zy_table.specs.State.{State}
use Rattle.zy_world_setup.specs.Said.{none_said}
use Rattle.zy_world.specs.Starting.{replica_seat, client_seat}
use Rattle.zy_world_law.specs.Setup.{Setup, keys_of, public_key_of}
use Rattle.zy_world.proofs.Begun.{shows_start}
use Rattle.zy_world.proofs.world.World.start.Goals as goal

pub seat_replicas-requires-clause-replicas : goal.seat_replicas-requires-clause-replicas
unfolding keys_of
seat_replicas-requires-clause-replicas g c =
    let s = c.args.setup in
    let long = ap (λ (keys : Keys). length keys.replicas) c.in_ok-replicas.ensures.directory
    ∙ length-map-range_with_len (λ id. public_key_of s (parties.Replica (record { 0 = id }))) 0 s.counts.n in
    omega (arith, long)

pub seat_replicas-requires-clause-clients : goal.seat_replicas-requires-clause-clients
unfolding keys_of
seat_replicas-requires-clause-clients g c =
    let s = c.args.setup in
    let long = ap (λ (keys : Keys). length keys.clients) c.in_ok-replicas.ensures.directory
    ∙ length-map-range_with_len (λ id. public_key_of s (parties.Client (record { 0 = id }))) 0 s.clients in
    omega (arith, long, c.requires.clients)

pub returns : goal.returns
returns g c =
    let R = g.M.Machine.rules in
    let s = c.args.setup in
    let i = c.setup.inside in
    let keys_are = c.in_ok-replicas.ensures.directory in
    let replicas_are = c.in_ok-replicas-2.ensures.seats ∙ ap (λ (keys : Keys). map (replica_seat R s keys) (range_with_len 0 s.counts.n)) keys_are in
    let clients_are = c.in_ok-clients.ensures.seats ∙ ap (λ (keys : Keys). map (client_seat s keys) (range_with_len 0 s.clients)) keys_are in
    shows_start R s _ c.len.result c.len-2.result
    c.setup.view_is
    (c.directory.view_is ∙ keys_are)
    (ap₂ (λ (r : List (Option (State g.row.M-State.Denot))) (p : List (Option ClientState)). record { replicas = r; clients = p }) replicas_are clients_are)
    (ap₂ (λ (r p : List (Option SealerState)). record { replicas = r; clients = p }) c.in_ok-replicas-2.ensures.keys c.in_ok-clients.ensures.keys)
    c.new.ensures
    (omega (arith, c.len.ensures, c.in_ok-replicas-2.replicas.seats.ok.0, ap length replicas_are))
    (omega (arith, c.len-2.ensures, c.in_ok-clients.clients.seats.ok.0, ap length clients_are))
    (c.muted.view_is ∙ c.in_ok-muted.ensures)
    c.none-2.ensures
    c.in_ok-new.ensures
    (c.in_ok-said.ensures
    ∙ ap₂ (λ (r : List ReplicaId) (p : List ClientId). none_said i.counts.n (map (λ id. id.0) r) i.clients (map (λ id. id.0) p)) c.deref.ensures.value c.deref-2.ensures.value
    ∙ ap (λ (v : Setup). none_said v.counts.n v.liars v.clients v.lying_clients) c.setup.view_is)
