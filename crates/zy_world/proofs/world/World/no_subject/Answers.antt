use Rattle.std.proofs.Common.{refl}
use Rattle.zy_world.proofs.world.World.no_subject.Goals as goal

pub returns-clause-goes : goal.returns-clause-goes
returns-clause-goes g c w others s = rw (c.noted.ensures.world, c.noted.ensures.note) (record { world = w; goes = refl; shows = s })
