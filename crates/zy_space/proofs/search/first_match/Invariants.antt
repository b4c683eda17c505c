use Rattle.std.proofs.Common.{Some}
use Rattle.zy_space.specs.Search.{searched}
use Rattle.zy_space.proofs.SearchLemmas.{IsWalked}
use Rattle.zy_space.proofs.search.first_match.Given as goal

abbrev pub invariant-loop-step : goal.invariant-loop-step
invariant-loop-step l = IsWalked l.template (searched l.bucket l.slots.live) l.step (Some l.id)
