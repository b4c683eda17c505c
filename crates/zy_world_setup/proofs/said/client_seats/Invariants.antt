use Rattle.std.proofs.Common.{◌≡◌, [], map}
use Rattle.zy_world_law.specs.World.{seats}
use Rattle.zy_world_setup.proofs.said.client_seats.Given as goal

abbrev pub invariant-loop-id : goal.invariant-loop-id
invariant-loop-id l = l.seats.items ≡ seats l.id (map (λ id. id.0) l.lying) (λ id. [])
