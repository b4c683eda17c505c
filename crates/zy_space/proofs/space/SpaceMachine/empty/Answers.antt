use Rattle.std.proofs.Common.{[], refl, arith}
use Rattle.zy_space.proofs.ChangeLemmas.{space_made, trail_none}
use Rattle.zy_space.proofs.space.SpaceMachine.empty.Goals as goal

pub invariant_of-result : goal.invariant_of-result
invariant_of-result c = rw (c.new.ensures, c.new-2.ensures.items) (space_made (record { live = []; stack = [] }) 0 tt refl refl (omega arith))

pub returns-clause-trail : goal.returns-clause-trail
returns-clause-trail c = rw c.new-2.ensures.items (trail_none c.new.result)
