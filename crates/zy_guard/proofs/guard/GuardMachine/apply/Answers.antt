use Rattle.zy_guard.specs.Laws.{reply_short}
use Rattle.zy_guard.proofs.guard.GuardMachine.apply.Goals as goal

pub returns-in-Ok-clause-short : goal.returns-in-Ok-clause-short
returns-in-Ok-clause-short c = rw c.in-Ok.ensures (reply_short c.in_ok-reply.reply c.in_ok-reply.ensures.is_reply)
