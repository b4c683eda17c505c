use Rattle.std.proofs.Common.{sym, ap, ◌∙◌, subst}
use Rattle.std.specs.Prelude.{option_copied}
use Rattle.zy_change.specs.Fit.{IsFit}
use Rattle.zy_change.proofs.FitLemmas.{told-fit}
use Rattle.zy_change.proofs.machine.ViewMachine.report_by.Goals as goal

pub read-requires : goal.read-requires
read-requires c =
    (told-fit c.args.self.now c.args.view (option_copied c.args.heard) (option_copied c.args.own) (subst IsFit c.self.view_is c.self.invariant) c.requires.heard c.requires.own c.args.id c.in-Some.told.now
    (sym c.told_by.ensures ∙ ap option_copied c.in-Some.is)).in_range
