use Rattle.zy_guard.proofs.ChangeLemmas.{put_step, put_more}
use Rattle.zy_guard.proofs.changes.put.Goals as goal

pub returns-in-Ok-clause-ok : goal.returns-in-Ok-clause-ok
returns-in-Ok-clause-ok c =
    rw c.in_ok-push_back.ensures.items (put_step c.args.slots.now c.put_last.new.slots c.args.changes.now.items c.args.owned c.requires.sound c.requires.state c.in-Ok.ensures.ok)

pub returns-in-Ok-clause-many : goal.returns-in-Ok-clause-many
returns-in-Ok-clause-many c = put_more c.args.slots.now c.put_last.new.slots c.args.owned c.in-Ok.ensures.ok
