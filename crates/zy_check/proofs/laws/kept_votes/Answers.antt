use Rattle.zy_check.proofs.VoteLemmas.{rising-different, put-permutes, equal_to-put}
use Rattle.zy_check.proofs.laws.kept_votes.Goals as goal

pub returns-clause-different : goal.returns-clause-different
returns-clause-different g c = rising-different

pub returns-clause-permutation : goal.returns-clause-permutation
returns-clause-permutation g c = put-permutes

pub returns-clause-counted : goal.returns-clause-counted
returns-clause-counted g c = equal_to-put g.S.PartialEq.eq
