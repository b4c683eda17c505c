use Rattle.zy_guard.proofs.SearchLemmas.{IsCounted}
use Rattle.zy_guard.proofs.search.owns_fewer.Given as goal

abbrev pub invariant-loop-step : goal.invariant-loop-step
invariant-loop-step l = IsCounted l.fn.owner.0 l.slots.live l.step l.at
