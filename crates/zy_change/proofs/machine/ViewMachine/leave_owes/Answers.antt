use Rattle.zy_change.proofs.FitLemmas.{told_later}
use Rattle.zy_change.proofs.machine.ViewMachine.leave_owes.Goals as goal

pub collect_owes-requires-clause-own : goal.collect_owes-requires-clause-own
collect_owes-requires-clause-own c = told_later c.args.self.now c.args.told.now c.args.view c.view.ensures.fit c.requires.told c.requires.above
