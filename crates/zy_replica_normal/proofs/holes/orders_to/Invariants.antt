use Rattle.std.proofs.Common.{◌≡◌, ◌++◌, length, map}
use Rattle.zy_table.specs.Holes.{order_to}
use Rattle.zy_replica_normal.proofs.holes.orders_to.Given as goal

abbrev pub invariant-loop-order : goal.invariant-loop-order
invariant-loop-order l =
    (l.sent ++ map (order_to l.by) l.order-iterator.rest.items ≡ map (order_to l.by) l.fn.orders.items)
    × (length l.order-iterator.rest.items ≡ l.order-iterator.rest.len)
