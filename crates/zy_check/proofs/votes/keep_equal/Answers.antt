use Rattle.std.proofs.Common.{rules}
use Rattle.std.proofs.lemmas.Fn.{filter_same}
use Rattle.zy_check.proofs.votes.keep_equal.Goals as goal

pub returns : goal.returns
returns g c = filter_same _ (λ s. g.S.PartialEq.eq s.stmt c.args.stmt.now) _ (λ x b f k. search rules) _ _ c.retain.ensures.filtered
