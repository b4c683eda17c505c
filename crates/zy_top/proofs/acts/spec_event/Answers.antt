use Rattle.zy_space.specs.Laws.{reply_short}
use Rattle.zy_top.proofs.acts.spec_event.Goals as goal

pub returns-clause-allowed : goal.returns-clause-allowed
returns-clause-allowed c = (c.requires.history, rw c.in_ok-reply.ensures (reply_short c.args.reply c.requires.reply))
