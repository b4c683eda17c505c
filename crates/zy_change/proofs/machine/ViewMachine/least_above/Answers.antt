use Rattle.zy_change.proofs.AheadLemmas.{least_above}
use Rattle.zy_change.proofs.machine.ViewMachine.least_above.Goals as goal

pub returns-clause-above : goal.returns-clause-above
returns-clause-above c = rw (c.unwrap_or.ensures, c.lowest_above.ensures) (least_above c.args.self.now c.args.vote.now c.requires)
