use Rattle.std.proofs.Common.{◌≡◌, [], ◌+◌, ◌-◌, ◌<◌, length, sym, ◌∙◌, arith}
use Rattle.std.proofs.lemmas.Bool.{eqb-true}
use Rattle.std.proofs.lemmas.List.{nil_from_length}
use Rattle.std.proofs.lemmas.Result.{err_from_is_err_and}
use Rattle.zy_world.specs.Shows.{Shows}
use Rattle.zy_world_law.specs.Runs.{flow}
use Rattle.zy_world.proofs.Flows.{batch_cut, batch_on, comes_all, comes_none, comes_on, cut_on, flow_done, flow_ends}
use Rattle.zy_world.proofs.world.World.flows.Goals as goal

pub loop-left-init : goal.loop-left-init
loop-left-init g c = record {
  count = omega arith;
  far = λ whole s. comes_none (flow g.M.Machine.rules c.args.events) whole c.args.notes.now (λ v. Shows v c.args.self) s;
}

pub returns-in_err-dues-clause-cut : goal.returns-in_err-dues-clause-cut
returns-in_err-dues-clause-cut g c whole s =
    let p = err_from_is_err_and c.from_residual.result c.from_residual.ensures.1 in
    rw (p.1, p.2) tt

pub returns-then-is_empty-clause-comes : goal.returns-then-is_empty-clause-comes
returns-then-is_empty-clause-comes g c whole s =
    let R = g.M.Machine.rules in
    let left = c.loop-left.left in
    let dues = c.in_ok-dues.dues in
    let none : dues.items ≡ [] = nil_from_length dues.items (sym dues.ok.0 ∙ eqb-true dues.len 0 (sym c.if-is_empty.ensures)) in
    let some : 0 < left = omega (arith, c.loop-left-test.true) in
    comes_all (flow R c.args.events) (flow R left) whole _ _ (λ v. Shows v c.loop-left.world) (λ v. Shows v c.loop-left.world) (c.loop-left.invariant.far whole s)
    (λ v shown. (shown, flow_ends R left v (c.in_ok-dues.ensures.none v shown some none)))

pub returns-in_err-world-clause-cut : goal.returns-in_err-world-clause-cut
returns-in_err-world-clause-cut g c whole s =
    let R = g.M.Machine.rules in
    let left = c.loop-left.left in
    let dues = c.in_ok-dues.dues in
    let after = left - c.len.result in
    let same : length dues.items + after ≡ left = omega (arith, c.in_ok-dues.ensures.most, c.len.ensures, dues.ok.0) in
    let fault = c.in_err-world.field-0.0 in
    let p = err_from_is_err_and c.from_residual-in_err-world.result c.from_residual-in_err-world.ensures.1 in
    rw (p.1, p.2)
    (cut_on (flow R c.args.events) (flow R left) whole _ _ _ (λ v. Shows v c.loop-left.world) fault (c.loop-left.invariant.far whole s)
    (λ v shown. batch_cut R (length dues.items) after left v _ _ fault same (c.in_err-world.ensures.cut v after shown (c.in_ok-dues.ensures.next v shown))))

pub loop-left-preserved : goal.loop-left-preserved
loop-left-preserved g c =
    let R = g.M.Machine.rules in
    let held = c.loop-left.invariant in
    let left = c.loop-left.left in
    let dues = c.in_ok-dues.dues in
    let after = left - c.len.result in
    let same : length dues.items + after ≡ left = omega (arith, c.in_ok-dues.ensures.most, c.len.ensures, dues.ok.0) in
    record {
      count = omega (arith, held.count, c.bring_all.ensures.most, same);
      far = λ whole s.
          comes_on (flow R c.args.events) (flow R left) (flow R after) whole _ _ _ (λ v. Shows v c.loop-left.world) _ (held.far whole s)
          (λ v shown. batch_on R (length dues.items) after left v (flow R after) _ _ _ same (c.in_ok-world.ensures.comes v after shown (c.in_ok-dues.ensures.next v shown)));
    }

pub returns-clause-comes : goal.returns-clause-comes
returns-clause-comes g c whole s =
    let R = g.M.Machine.rules in
    let left = c.loop-left.left in
    let none : left ≡ 0 = omega (arith, c.loop-left-test.false) in
    comes_all (flow R c.args.events) (flow R left) whole _ _ (λ v. Shows v c.loop-left.world) (λ v. Shows v c.loop-left.world) (c.loop-left.invariant.far whole s) (λ v shown. (shown, flow_done R left v none))
