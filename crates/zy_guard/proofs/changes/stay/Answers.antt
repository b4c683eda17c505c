use Rattle.zy_guard.proofs.ChangeLemmas.{stay_step}
use Rattle.zy_guard.proofs.changes.stay.Goals as goal

pub returns-clause-ok : goal.returns-clause-ok
returns-clause-ok c = rw c.in_ok-push_back.ensures.items (stay_step c.args.slots.now c.args.changes.now.items c.requires)
