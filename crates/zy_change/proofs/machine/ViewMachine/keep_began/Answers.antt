use Rattle.zy_change.proofs.BeginningLemmas.{with_began-fit}
use Rattle.zy_change.proofs.machine.ViewMachine.keep_began.Goals as goal

pub invariant_of-self : goal.invariant_of-self
invariant_of-self c = rw c.index_of-index.ensures (with_began-fit _ c.args.vote c.self.invariant c.requires.kept)
