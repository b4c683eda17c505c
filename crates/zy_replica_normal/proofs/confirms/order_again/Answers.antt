use Rattle.zy_replica_normal.proofs.confirms.order_again.Goals as goal

pub send_order_to-requires : goal.send_order_to-requires
send_order_to-requires g c = c.in_ok-frame_at.ensures.ready c.in-Some.kept c.in-Some.is
