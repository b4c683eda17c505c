use Rattle.std.proofs.Common.{sym, ◌∙◌, arith}
use Rattle.zy_cert.proofs.VoteLemmas.{first-tells}
use Rattle.zy_cert.proofs.votes.is_for_other.Goals as goal

pub returns-in-len1-up : goal.returns-in-len1-up
returns-in-len1-up g c =
    c.ne.ensures
    ∙ sym (first-tells g.S.PartialEq.eq g.met.S.Matching.equal c.args.stmt.now c.args.votes.now c.first-item.result c.first-item.is (omega (arith, c.in-len1-up.len_at_least)) c.requires)
