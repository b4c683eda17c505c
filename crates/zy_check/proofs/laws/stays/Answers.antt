use Rattle.std.proofs.Common.{refl}
use Rattle.zy_check.proofs.JudgingLemmas.{after_spec-stays, after_check-stays, without_others-stays}
use Rattle.zy_check.proofs.laws.stays.Goals as goal

pub returns-clause-spec : goal.returns-clause-spec
returns-clause-spec c = after_spec-stays

pub returns-clause-check : goal.returns-clause-check
returns-clause-check c = after_check-stays

pub returns-clause-others : goal.returns-clause-others
returns-clause-others c = without_others-stays

pub returns-clause-cleared : goal.returns-clause-cleared
returns-clause-cleared c b = record { interval = refl; stable = refl; proof = refl }
