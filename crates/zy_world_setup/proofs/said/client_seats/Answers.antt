use Rattle.std.proofs.Common.{[], add-one}
use Rattle.zy_world_law.specs.World.{seats}
use Rattle.zy_world_setup.proofs.SaidLemmas.{seat_last}
use Rattle.zy_world_setup.proofs.said.client_seats.Goals as goal

pub loop-id-init : goal.loop-id-init
unfolding seats
loop-id-init c = c.new-seats.ensures.items

pub loop-id-preserved : goal.loop-id-preserved
loop-id-preserved c =
    rw (add-one, c.in_ok-push.ensures.items, c.loop-id.invariant, c.seat.ensures, c.contains.ensures.value)
    (seat_last (λ id. id.0) c.args.lying.now [] c.loop-id.id)
