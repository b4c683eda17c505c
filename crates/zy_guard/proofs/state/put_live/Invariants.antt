use Rattle.zy_guard.proofs.StateLemmas.{IsWritten}
use Rattle.zy_guard.proofs.state.put_live.Given as goal

abbrev pub invariant-loop-step : goal.invariant-loop-step
invariant-loop-step l = IsWritten l.fn.out l.slots.live l.step l.at l.out
