use Rattle.zy_guard.proofs.SetLaws.{IsRisen}
use Rattle.zy_guard.proofs.sets.rising.Given as goal

abbrev pub invariant-loop-step : goal.invariant-loop-step
invariant-loop-step l = IsRisen l.text l.step l.set l.least l.rest
