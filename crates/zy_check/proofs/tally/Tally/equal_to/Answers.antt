use Rattle.std.proofs.Common.{sym, ap, ◌∙◌, arith}
use Rattle.zy_check.specs.Votes.{equal_to}
use Rattle.zy_check.proofs.TallyLemmas.{tallied-few, equal-few}
use Rattle.zy_check.proofs.tally.Tally.equal_to.Goals as goal

pub returns-then-eq-clause-number : goal.returns-then-eq-clause-number
returns-then-eq-clause-number g c =
    let x = c.self.inside in
    let eq = g.S.PartialEq.eq in
    let stmt = c.args.stmt.now in
    let same = (g.met.S.Matching.equal c.counted_or.result stmt).0 (sym c.eq.ensures ∙ c.if-eq.true) in
    c.self.invariant stmt ∙ ap (λ s. equal_to eq s x.list.items) (sym c.counted_or.ensures ∙ same) ∙ ap (λ l. equal_to eq stmt l) c.self.view_is

pub returns-then-eq-clause-few : goal.returns-then-eq-clause-few
returns-then-eq-clause-few g c =
    let x = c.self.inside in
    omega (arith, tallied-few g.S.PartialEq.eq x.list.items x.counted x.number c.args.stmt.now c.self.invariant, x.list.ok.0, x.list.ok.1, x.list.small)

pub returns-else-eq-clause-few : goal.returns-else-eq-clause-few
returns-else-eq-clause-few g c =
    let x = c.self.inside in
    let few = equal-few g.S.PartialEq.eq c.args.stmt.now c.deref.result.now in
    omega (arith, c.equal_to.ensures, few, c.deref.ensures.len, x.list.ok.0, x.list.ok.1, x.list.small)
