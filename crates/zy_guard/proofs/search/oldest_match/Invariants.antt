use Rattle.std.proofs.Common.{Some}
use Rattle.zy_guard.proofs.SearchLemmas.{IsWalked}
use Rattle.zy_guard.proofs.search.oldest_match.Given as goal

abbrev pub invariant-loop-step : goal.invariant-loop-step
invariant-loop-step l = IsWalked l.client.0 l.template l.slots.live l.step (Some l.id)
