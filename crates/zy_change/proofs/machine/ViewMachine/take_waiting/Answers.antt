use Rattle.std.proofs.Common.{IfSome, Option, sym, subst}
use Rattle.zy_change.specs.declared.kept.Waiting.{Waiting}
use Rattle.zy_change.specs.Fit.{IsCertified}
use Rattle.zy_change.specs.Views.{Views}
use Rattle.zy_change.proofs.BeginningLemmas.{without_waiting-fit}
use Rattle.zy_change.proofs.machine.ViewMachine.take_waiting.Goals as goal

pub invariant_of-self : goal.invariant_of-self
invariant_of-self c = rw c.take.ensures.after (without_waiting-fit _ c.self.invariant)

pub returns-clause-certified : goal.returns-clause-certified
returns-clause-certified c =
    subst (λ (v : Views). IfSome c.take.result (λ (w : Waiting). IsCertified v.counts v.interval w.cert w.chosen)) c.self.view_is
    (subst (λ (o : Option Waiting). IfSome o (λ (w : Waiting). IsCertified c.self.inside.counts c.self.inside.interval w.cert w.chosen)) (sym c.take.ensures.value) c.self.invariant.waiting)
