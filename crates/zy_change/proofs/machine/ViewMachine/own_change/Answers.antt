use Rattle.std.proofs.Common.{sym, ◌∙◌, subst}
use Rattle.zy_change.specs.Fit.{IsFit}
use Rattle.zy_change.proofs.machine.ViewMachine.own_change.Goals as goal

pub returns-clause-in_range : goal.returns-clause-in_range
returns-clause-in_range c = λ x is.
    let fit = subst IsFit c.self.view_is c.self.invariant in
    (fit.kept c.self.inside.me.0 x (sym c.kept_change.ensures ∙ is)).in_range
