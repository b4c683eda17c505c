use Rattle.zy_replica_normal.proofs.requests.request_at_backup.Goals as goal

pub tell_again-requires : goal.tell_again-requires
tell_again-requires g c = c.requires.pending c.in-Some.pending c.in-Some.is
