use Rattle.std.proofs.Common.{sym, add-one}
use Rattle.zy_replica_views.proofs.AskLemmas.{asked_next}
use Rattle.zy_replica_views.proofs.waiting.asked_of.Goals as goal

pub loop-id-preserved : goal.loop-id-preserved
loop-id-preserved g c = rw (add-one, c.in_ok-push_asked.ensures, c.loop-id.invariant) (sym (asked_next c.args.proof.now c.me-me.result.0 c.loop-id.id))
