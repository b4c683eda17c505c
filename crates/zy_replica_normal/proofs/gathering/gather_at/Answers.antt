use Rattle.zy_replica_normal.proofs.gathering.gather_at.Goals as goal

pub gather-requires-clause-own : goal.gather-requires-clause-own
gather-requires-clause-own g c = c.requires.own c.in-Some.own c.in-Some.is
