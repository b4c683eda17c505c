use Rattle.zy_check.proofs.BoardLemmas.{start-is, without_other_specs-is, without_other_checks-is, with_stable-is, cleared-is}
use Rattle.zy_check.specs.Board.{without_other_specs}
use Rattle.zy_check.proofs.JudgingLemmas.{after_spec-is, after_check-is}
use Rattle.zy_check.proofs.laws.boards.Goals as goal

pub returns-clause-start : goal.returns-clause-start
returns-clause-start c = start-is

pub returns-clause-spec : goal.returns-clause-spec
returns-clause-spec c = after_spec-is

pub returns-clause-check : goal.returns-clause-check
returns-clause-check c = after_check-is

pub returns-clause-others : goal.returns-clause-others
returns-clause-others c b spec check is = without_other_checks-is (without_other_specs b spec) check (without_other_specs-is b spec is)

pub returns-clause-stable : goal.returns-clause-stable
returns-clause-stable c = with_stable-is

pub returns-clause-cleared : goal.returns-clause-cleared
returns-clause-cleared c = cleared-is
