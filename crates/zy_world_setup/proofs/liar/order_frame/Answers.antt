use Rattle.zy_world_setup.proofs.AsTold.{order_as_told}
use Rattle.zy_world_setup.proofs.liar.order_frame.Goals as goal

pub returns-clause-frame : goal.returns-clause-frame
returns-clause-frame c =
    order_as_told c.args.view c.args.asks.now c.args.sealer.now c.last_of-last.result.now c.last_of-last.ensures.value
    c.order_of.result c.in_ok-order.order c.in_ok-ask.ask c.in_ok-encoded.field-0
    c.order_of.ensures.value c.in_ok-order.ensures.value c.in_ok-ask.ensures c.in_ok-encoded.ensures
