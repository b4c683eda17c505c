use Rattle.std.proofs.Common.{arith}
use Rattle.zy_world.specs.Ahead.{MayBeGone}
use Rattle.zy_world.proofs.OutOfSeats.{zipped}
use Rattle.zy_world.proofs.hands.step_all.Goals as goal

pub returns : goal.returns
returns g c =
    zipped _ _ (λ job made. MayBeGone g.M.Machine.rules job.replica job.bytes made) (λ job made p. p) c.args.jobs.items c.in_ok-map_vec.field-0.items
    (omega (arith, c.in_ok-map_vec.ensures.len)) c.in_ok-map_vec.ensures.each
