use Rattle.std.proofs.Common.{◌≡◌, ◌-◌, take, drop}
use Rattle.zy_admit.specs.Orders.{filled}
use Rattle.zy_admit.proofs.admission.Admission.orders_from.Given as goal

abbrev pub invariant-loop-at : goal.invariant-loop-at
invariant-loop-at l = l.orders.items ≡ filled (take (l.at - l.skipped) (drop l.skipped l.self.slots))
