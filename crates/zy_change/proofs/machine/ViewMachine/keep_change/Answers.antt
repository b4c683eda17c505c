use Rattle.std.proofs.Common.{sym, subst}
use Rattle.zy_evidence.specs.Reading.{number_of_party}
use Rattle.zy_change.specs.Fit.{IsKeptChange}
use Rattle.zy_change.specs.Views.{Views}
use Rattle.zy_change.proofs.FitLemmas.{with_change-fit}
use Rattle.zy_change.proofs.machine.ViewMachine.keep_change.Goals as goal

pub invariant_of-self : goal.invariant_of-self
invariant_of-self c =
    rw c.index_of-index.ensures
    (with_change-fit _ c.args.vote c.self.invariant
    (subst (λ (v : Views). IsKeptChange v.counts v.interval (number_of_party c.args.vote.by) c.args.vote) (sym c.self.view_is) c.requires.kept))
