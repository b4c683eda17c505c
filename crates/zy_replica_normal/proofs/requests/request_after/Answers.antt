use Rattle.zy_replica_normal.proofs.requests.request_after.Goals as goal

pub repeat_or_take-requires-clause-known : goal.repeat_or_take-requires-clause-known
repeat_or_take-requires-clause-known g c = c.requires.known c.in-Some.known c.in-Some.is
