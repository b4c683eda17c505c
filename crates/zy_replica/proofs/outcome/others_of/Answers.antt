use Rattle.std.proofs.Common.{refl, sym, add-one}
use Rattle.zy_replica_state.proofs.OthersLemmas.{others_next}
use Rattle.zy_replica.proofs.outcome.others_of.Goals as goal

pub loop-id-preserved : goal.loop-id-preserved
loop-id-preserved c = rw (add-one, c.in_ok-push_other.ensures, c.loop-id.invariant) (sym (others_next c.args.me.0 c.loop-id.id _ refl))
