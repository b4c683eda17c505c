use Rattle.zy_change.proofs.FitLemmas.{start-fit}
use Rattle.zy_change.proofs.machine.ViewMachine.start.Goals as goal

pub invariant_of-result : goal.invariant_of-result
invariant_of-result c =
    rw (c.in_ok-no_slots.ensures, c.in_ok-nobody.ensures, c.in_ok-no_slots-2.ensures)
    (start-fit c.args.counts c.args.me c.args.k c.requires.me c.requires.at_least c.requires.at_most)
