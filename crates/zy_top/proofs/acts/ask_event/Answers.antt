use Rattle.zy_top_hosting.proofs.ShortOps.{op_short}
use Rattle.zy_top.proofs.acts.ask_event.Goals as goal

pub returns-clause-allowed : goal.returns-clause-allowed
returns-clause-allowed c = rw c.in_ok-op.ensures (op_short c.args.op c.requires)
