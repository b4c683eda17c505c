use Rattle.zy_replica_normal.proofs.checkpoints.gather_kept.Goals as goal

pub gather_at-requires-clause-own : goal.gather_at-requires-clause-own
gather_at-requires-clause-own g c = rw c.begin.ensures c.requires.own
