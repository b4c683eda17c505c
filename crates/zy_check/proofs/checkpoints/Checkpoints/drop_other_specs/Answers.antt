use Rattle.std.proofs.Common.{subst, sym}
use Rattle.zy_check.specs.Board.{IsBoard, only_spec, without_other_specs}
use Rattle.zy_check.proofs.BoardLemmas.{without_other_specs-is}
use Rattle.zy_check.proofs.ChangeLemmas.{near-changed, far-changed, none-changed}
use Rattle.zy_check.proofs.checkpoints.Checkpoints.drop_other_specs.Goals as goal

pub returns-then-height-self : goal.returns-then-height-self
unfolding without_other_specs
returns-then-height-self c =
    near-changed _ _ c.self.view_is c.args.spec.now.place.0 _ c.height-height.ensures (only_spec c.args.spec.now) _ c.if-height-self.true c.keep_spec.ensures

pub invariant_of-self : goal.invariant_of-self
unfolding without_other_specs
invariant_of-self c =
    subst IsBoard
    (sym (near-changed _ _ c.self.view_is c.args.spec.now.place.0 _ c.height-height.ensures (only_spec c.args.spec.now) _ c.if-height-self.true c.keep_spec.ensures))
    (without_other_specs-is c.args.self.now c.args.spec.now (subst IsBoard c.self.view_is c.self.invariant))

pub returns-then-height-self-2 : goal.returns-then-height-self-2
unfolding without_other_specs
returns-then-height-self-2 c =
    far-changed _ _ c.self.view_is c.args.spec.now.place.0 _ c.height-height.ensures (only_spec c.args.spec.now) _ c.if-height-self.false c.if-height-self-2.true c.keep_spec-then-height-self-2.ensures

pub invariant_of-self-then-height-self-2 : goal.invariant_of-self-then-height-self-2
unfolding without_other_specs
invariant_of-self-then-height-self-2 c =
    subst IsBoard
    (sym (far-changed _ _ c.self.view_is c.args.spec.now.place.0 _ c.height-height.ensures (only_spec c.args.spec.now) _ c.if-height-self.false c.if-height-self-2.true c.keep_spec-then-height-self-2.ensures))
    (without_other_specs-is c.args.self.now c.args.spec.now (subst IsBoard c.self.view_is c.self.invariant))

pub returns-else-height-self-2 : goal.returns-else-height-self-2
unfolding without_other_specs
returns-else-height-self-2 c = none-changed _ _ c.self.view_is c.args.spec.now.place.0 _ c.height-height.ensures (only_spec c.args.spec.now) c.if-height-self.false c.if-height-self-2.false
