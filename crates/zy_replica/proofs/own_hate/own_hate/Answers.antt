use Rattle.std.proofs.Common.{nat_eq, ◌∙◌, ap, sym}
use Rattle.zy_replica.proofs.OwnHateLemmas.{said_in_range, said_is_own}
use Rattle.zy_replica.proofs.own_hate.own_hate.Goals as goal

pub returns-in-Some-clause-said : goal.returns-in-Some-clause-said
returns-in-Some-clause-said g c =
    let same = ap (nat_eq c.in-Some.said.now.stmt.view.0) (sym c.view.ensures.view) ∙ sym c.eq.ensures ∙ c.if-eq.true in
    said_is_own c.args.core.now c.in-Some.said.now c.in-Some.ensures.hate same
