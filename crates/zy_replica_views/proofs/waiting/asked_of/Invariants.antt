use Rattle.std.proofs.Common.{◌≡◌}
use Rattle.zy_replica_views.proofs.AskLemmas.{asked_below}
use Rattle.zy_replica_views.proofs.waiting.asked_of.Given as goal

abbrev pub invariant-loop-id : goal.invariant-loop-id
invariant-loop-id g l = l.asked.items ≡ asked_below l.proof l.me.0 l.id
