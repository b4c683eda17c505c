use Rattle.zy_space.proofs.ChangeLemmas.{put_step, put_more}
use Rattle.zy_space.proofs.changes.put.Goals as goal

pub returns-in-Ok-clause-ok : goal.returns-in-Ok-clause-ok
returns-in-Ok-clause-ok c =
    rw c.in_ok-push_back.ensures.items (put_step c.args.slots.now c.put_last.new.slots c.args.changes.now.items c.args.tuple c.requires.sound c.requires.tuple c.requires.room c.in-Ok.ensures.ok)

pub returns-in-Ok-clause-many : goal.returns-in-Ok-clause-many
returns-in-Ok-clause-many c = put_more c.args.slots.now c.put_last.new.slots c.args.tuple c.in-Ok.ensures.ok
