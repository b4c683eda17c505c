use Rattle.std.proofs.Common.{◌≡◌, ◌+◌, length}
use Rattle.zy_base.specs.declared.ids.Party.TheVariants as parties
use Rattle.zy_world.specs.Starting.{client_seat, client_key}
use Rattle.zy_world_law.specs.Setup.{sealer_of}
use Rattle.zy_world.proofs.Seating.{IsMade, IsLeft}
use Rattle.zy_world.proofs.start.seat_clients.Given as goal

abbrev pub invariant-loop-sealer : goal.invariant-loop-sealer
invariant-loop-sealer l = record {
  seats : IsMade (client_seat l.setup l.directory) (length l.row.seats.items) l.row.seats.items;
  keys : IsMade (client_key l.setup) (length l.row.seats.items) l.row.keys.items;
  left : IsLeft (λ id. sealer_of l.setup (parties.Client (record { 0 = id })) 0) (length l.row.seats.items) l.sealer-iterator.rest.items;
  all : length l.row.seats.items + length l.sealer-iterator.rest.items ≡ l.setup.clients;
  long : length l.sealer-iterator.rest.items ≡ l.sealer-iterator.rest.len;
}
