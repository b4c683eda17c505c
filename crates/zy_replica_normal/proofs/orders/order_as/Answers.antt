use Rattle.std.proofs.Common.{ap}
use Rattle.zy_table.specs.Orders.{position_of}
use Rattle.zy_replica_normal.proofs.WithinLemmas.{is_kept, kept_within}
use Rattle.zy_replica_normal.proofs.orders.order_as.Goals as goal

pub take_order-requires-clause-above : goal.take_order-requires-clause-above
take_order-requires-clause-above g c =
    (kept_within c.args.frame.order.stmt c.args.frame.ask (position_of g.M.Machine.rules c.args.core c.args.frame) c.args.core.orders c.args.admit c.requires.judged (ap is_kept c.in-Next.is)).0

pub take_order-requires-clause-within : goal.take_order-requires-clause-within
take_order-requires-clause-within g c =
    (kept_within c.args.frame.order.stmt c.args.frame.ask (position_of g.M.Machine.rules c.args.core c.args.frame) c.args.core.orders c.args.admit c.requires.judged (ap is_kept c.in-Next.is)).1

pub hold_order-requires-clause-above : goal.hold_order-requires-clause-above
hold_order-requires-clause-above g c =
    (kept_within c.args.frame.order.stmt c.args.frame.ask (position_of g.M.Machine.rules c.args.core c.args.frame) c.args.core.orders c.args.admit c.requires.judged (ap is_kept c.in-Held.is)).0

pub hold_order-requires-clause-within : goal.hold_order-requires-clause-within
hold_order-requires-clause-within g c =
    (kept_within c.args.frame.order.stmt c.args.frame.ask (position_of g.M.Machine.rules c.args.core c.args.frame) c.args.core.orders c.args.admit c.requires.judged (ap is_kept c.in-Held.is)).1
