use Rattle.zy_replica_normal.proofs.FillLemmas.{sent_in_range}
use Rattle.zy_replica_normal.proofs.holes.send_orders.Goals as goal

pub invariant_of-ends : goal.invariant_of-ends
invariant_of-ends g c =
    record {
      frames = rw c.in_ok-orders_to.ensures (sent_in_range c.args.by c.args.orders.items c.requires);
      acts = rw c.new.ensures tt;
    }
