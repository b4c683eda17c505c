use Rattle.std.proofs.Common.{subst}
use Rattle.zy_check.specs.Board.{IsBoard, put_spec, with_spec}
use Rattle.zy_check.proofs.BoardLemmas.{with_spec-is}
use Rattle.zy_check.proofs.ChangeLemmas.{near-closed, near-kept, far-closed, far-kept, none-changed}
use Rattle.zy_check.proofs.checkpoints.Checkpoints.put_spec.Goals as goal

pub invariant_of-self : goal.invariant_of-self
unfolding with_spec
invariant_of-self c =
    near-closed _ _ c.self.view_is c.args.vote.stmt.place.0 _ c.height-height.ensures (put_spec c.args.vote) c.put_spec.result _ c.if-height-self.true c.put_spec.ensures.ok c.put_spec.ensures.err c.self.invariant
    (with_spec-is c.args.self.now c.args.vote (subst IsBoard c.self.view_is c.self.invariant) c.requires)

pub returns-then-height-self-clause-ok : goal.returns-then-height-self-clause-ok
unfolding with_spec
returns-then-height-self-clause-ok c =
    near-kept _ _ c.self.view_is c.args.vote.stmt.place.0 _ c.height-height.ensures (put_spec c.args.vote) c.put_spec.result _ c.if-height-self.true c.put_spec.ensures.ok

pub invariant_of-self-then-height-self-2 : goal.invariant_of-self-then-height-self-2
unfolding with_spec
invariant_of-self-then-height-self-2 c =
    far-closed _ _ c.self.view_is c.args.vote.stmt.place.0 _ c.height-height.ensures (put_spec c.args.vote) c.put_spec-then-height-self-2.result _ c.if-height-self.false c.if-height-self-2.true c.put_spec-then-height-self-2.ensures.ok
    c.put_spec-then-height-self-2.ensures.err c.self.invariant
    (with_spec-is c.args.self.now c.args.vote (subst IsBoard c.self.view_is c.self.invariant) c.requires)

pub returns-then-height-self-2-clause-ok : goal.returns-then-height-self-2-clause-ok
unfolding with_spec
returns-then-height-self-2-clause-ok c =
    far-kept _ _ c.self.view_is c.args.vote.stmt.place.0 _ c.height-height.ensures (put_spec c.args.vote) c.put_spec-then-height-self-2.result _ c.if-height-self.false c.if-height-self-2.true c.put_spec-then-height-self-2.ensures.ok

pub returns-else-height-self-2-clause-ok : goal.returns-else-height-self-2-clause-ok
unfolding with_spec
returns-else-height-self-2-clause-ok c = none-changed _ _ c.self.view_is c.args.vote.stmt.place.0 _ c.height-height.ensures (put_spec c.args.vote) c.if-height-self.false c.if-height-self-2.false
