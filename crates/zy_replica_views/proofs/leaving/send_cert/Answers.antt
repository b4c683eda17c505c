use Rattle.zy_replica_views.proofs.leaving.send_cert.Goals as goal

pub send_view-requires : goal.send_view-requires
send_view-requires g c = c.in_ok-kept_cert.ensures.sends c.in-Some.cert c.in-Some.is
