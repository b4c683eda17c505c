use Rattle.std.proofs.Common.{◌++◌, List, length, map, refl, sym, ◌∙◌, ap, arith}
use Rattle.zy_frames.specs.declared.frame.OrderFrame.{OrderFrame}
use Rattle.zy_table.specs.Holes.{order_to}
use Rattle.zy_replica_normal.proofs.MovedLemmas.{moved, all_told}
use Rattle.zy_replica_normal.proofs.holes.orders_to.Goals as goal

pub loop-order-preserved : goal.loop-order-preserved
loop-order-preserved c =
    let steps = c.in-Some.ensures.steps in
    let held = c.loop-order.invariant in (
      rw c.in_ok-push.ensures.ok
          (moved c.loop-order.sent (order_to c.args.by c.in-Some.order) _ _
          (ap (λ (xs : List OrderFrame). c.loop-order.sent ++ map (order_to c.args.by) xs) (sym steps.0) ∙ held.0)),
      omega (arith, ap length steps.0, steps.1, held.1),
    )

pub returns : goal.returns
returns c =
    let held = c.loop-order.invariant in
    all_told c.loop-order.sent (map (order_to c.args.by)) _ _ refl held.0 (held.1 ∙ c.in-None.ensures.steps.0)
