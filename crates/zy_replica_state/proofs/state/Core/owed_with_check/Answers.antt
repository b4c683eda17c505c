use Rattle.zy_replica_state.proofs.state.Core.owed_with_check.Goals as goal

pub owes_with_check-requires-clause-ready : goal.owes_with_check-requires-clause-ready
owes_with_check-requires-clause-ready g c = c.requires.ready c.in-Some.own c.in-Some.is
