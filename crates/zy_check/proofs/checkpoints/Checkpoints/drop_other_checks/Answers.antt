use Rattle.std.proofs.Common.{subst, sym}
use Rattle.zy_check.specs.Board.{IsBoard, only_check, without_other_checks}
use Rattle.zy_check.proofs.BoardLemmas.{without_other_checks-is}
use Rattle.zy_check.proofs.ChangeLemmas.{near-changed, far-changed, none-changed}
use Rattle.zy_check.proofs.checkpoints.Checkpoints.drop_other_checks.Goals as goal

pub returns-then-height-self : goal.returns-then-height-self
unfolding without_other_checks
returns-then-height-self c =
    near-changed _ _ c.self.view_is c.args.check.now.place.0 _ c.height-height.ensures (only_check c.args.check.now) _ c.if-height-self.true c.keep_check.ensures

pub invariant_of-self : goal.invariant_of-self
unfolding without_other_checks
invariant_of-self c =
    subst IsBoard
    (sym (near-changed _ _ c.self.view_is c.args.check.now.place.0 _ c.height-height.ensures (only_check c.args.check.now) _ c.if-height-self.true c.keep_check.ensures))
    (without_other_checks-is c.args.self.now c.args.check.now (subst IsBoard c.self.view_is c.self.invariant))

pub returns-then-height-self-2 : goal.returns-then-height-self-2
unfolding without_other_checks
returns-then-height-self-2 c =
    far-changed _ _ c.self.view_is c.args.check.now.place.0 _ c.height-height.ensures (only_check c.args.check.now) _ c.if-height-self.false c.if-height-self-2.true c.keep_check-then-height-self-2.ensures

pub invariant_of-self-then-height-self-2 : goal.invariant_of-self-then-height-self-2
unfolding without_other_checks
invariant_of-self-then-height-self-2 c =
    subst IsBoard
    (sym (far-changed _ _ c.self.view_is c.args.check.now.place.0 _ c.height-height.ensures (only_check c.args.check.now) _ c.if-height-self.false c.if-height-self-2.true c.keep_check-then-height-self-2.ensures))
    (without_other_checks-is c.args.self.now c.args.check.now (subst IsBoard c.self.view_is c.self.invariant))

pub returns-else-height-self-2 : goal.returns-else-height-self-2
unfolding without_other_checks
returns-else-height-self-2 c = none-changed _ _ c.self.view_is c.args.check.now.place.0 _ c.height-height.ensures (only_check c.args.check.now) c.if-height-self.false c.if-height-self-2.false
