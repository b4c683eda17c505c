use Rattle.zy_change.proofs.AcceptedLemmas.{all_certified}
use Rattle.zy_change.proofs.machine.ViewMachine.take_certified.Goals as goal

pub returns-clause-certified : goal.returns-clause-certified
returns-clause-certified c =
    all_certified c.args.self.now c.take_accepted.result c.take_accepted.ensures.fit c.take_accepted.ensures.cert c.take_accepted.ensures.chosen
