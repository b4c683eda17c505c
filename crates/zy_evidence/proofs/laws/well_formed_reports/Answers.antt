use Rattle.zy_evidence.proofs.ProofLemmas.{all_clear}
use Rattle.zy_evidence.proofs.laws.well_formed_reports.Goals as goal

pub returns : goal.returns
returns c = all_clear
