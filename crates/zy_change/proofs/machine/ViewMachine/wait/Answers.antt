use Rattle.std.proofs.Common.{sym, subst}
use Rattle.zy_change.specs.Fit.{IsCertified}
use Rattle.zy_change.specs.Views.{Views}
use Rattle.zy_change.proofs.BeginningLemmas.{with_waiting-fit}
use Rattle.zy_change.proofs.machine.ViewMachine.wait.Goals as goal

pub invariant_of-self : goal.invariant_of-self
invariant_of-self c =
    with_waiting-fit _ (record { cert = c.args.cert; chosen = c.args.chosen }) c.self.invariant
    (subst (λ (v : Views). IsCertified v.counts v.interval c.args.cert c.args.chosen) (sym c.self.view_is) c.requires)
