use Rattle.zy_change.proofs.FitLemmas.{told_well}
use Rattle.zy_change.proofs.laws.true_reports.Goals as goal

pub returns : goal.returns
returns c = told_well
