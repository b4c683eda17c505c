use Rattle.std.proofs.Common.{◌≡◌, map, take}
use Rattle.zy_world_law.specs.World.{is_told}
use Rattle.zy_world.proofs.seats.Seats.who_sits.Given as goal

abbrev pub invariant-loop-seat : goal.invariant-loop-seat
invariant-loop-seat g l = l.sits.items ≡ map is_told (take l.seat-index l.self.replicas)
