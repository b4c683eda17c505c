use Rattle.std.proofs.Common.{[], refl}
use Rattle.zy_guard.specs.Laws.{starts}
use Rattle.zy_guard.proofs.ChangeLemmas.{guard_made, trail_none}
use Rattle.zy_guard.proofs.guard.GuardMachine.empty.Goals as goal

pub invariant_of-result : goal.invariant_of-result
invariant_of-result c = rw (c.new.ensures, c.new-2.ensures.items) (guard_made (record { live = []; stack = [] }) 0 starts tt refl refl)

pub returns-clause-trail : goal.returns-clause-trail
returns-clause-trail c = rw c.new-2.ensures.items (trail_none c.new.result)
