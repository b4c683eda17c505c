use Rattle.zy_replica.proofs.timers.change_again.Goals as goal

pub send_view-requires : goal.send_view-requires
send_view-requires g c = c.requires c.in-Some.change c.in-Some.is
