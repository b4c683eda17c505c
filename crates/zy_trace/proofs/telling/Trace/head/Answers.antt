use Rattle.zy_top.proofs.SaidLaws.{said_op}
use Rattle.zy_trace.proofs.telling.Trace.head.Goals as goal

pub put_ask-requires : goal.put_ask-requires
put_ask-requires g c = said_op _ _ (rw c.in-Ask.is at c.requires.said)
