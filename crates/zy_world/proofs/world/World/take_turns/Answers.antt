use Rattle.std.proofs.Common.{◌≡◌, [], ◌+◌, rules, length, ap, ◌∙◌, arith}
use Rattle.std.proofs.lemmas.List.{nil_from_length}
use Rattle.std.proofs.lemmas.Result.{err_from_is_err_and}
use Rattle.zy_world.specs.Ahead.{ShowsTurns}
use Rattle.zy_world.specs.Shows.{Shows}
use Rattle.zy_world_law.specs.Runs.{flow}
use Rattle.zy_world.proofs.ComingBack.{none_is_out, turns_cut, turns_end, turns_on}
use Rattle.zy_world.proofs.Flows.{comes_none, comes_on, cut_on}
use Rattle.zy_world.proofs.world.World.take_turns.Goals as goal

pub loop-turn-init : goal.loop-turn-init
loop-turn-init g c =
    let all = c.into_iter-turn-iterator.ensures.into_iter_gives in
    record {
      long = search rules;
      count = omega (arith, ap length all.0);
      far = λ whole left is.
          rw (all.0, c.into_iter-out.ensures.rest)
          (comes_none (flow g.M.Machine.rules (length c.args.turns.items + left)) whole c.args.notes.now (λ v. ShowsTurns g.M.Machine.rules v c.args.turns.items c.args.made.items c.args.self) is);
    }

pub loop-turn-preserved : goal.loop-turn-preserved
loop-turn-preserved g c =
    let R = g.M.Machine.rules in
    let held = c.loop-turn.invariant in
    let steps = c.in-Some.ensures.steps in
    let rest = c.next.new.self.rest.items in
    let all = c.loop-turn.turn-iterator.rest.items in
    record {
      long = omega (arith, ap length steps.0, steps.1, held.long);
      count = omega (arith, held.count, c.take_turn.ensures.most, ap length steps.0);
      far = λ whole left is.
          comes_on (flow R (length c.args.turns.items + left)) (flow R (length all + left)) (flow R (length rest + left)) whole _ _ _ _ _ (held.far whole left is)
          (λ v s. turns_on R all c.in-Some.turn rest left v _ _ steps.0 s (flow R (length rest + left)) _ _ _ (c.in_ok-world.ensures.comes v rest (length rest + left)));
    }

pub returns-in_err-world-clause-cut : goal.returns-in_err-world-clause-cut
returns-in_err-world-clause-cut g c whole left is =
    let R = g.M.Machine.rules in
    let steps = c.in-Some.ensures.steps in
    let rest = c.next.new.self.rest.items in
    let all = c.loop-turn.turn-iterator.rest.items in
    let p = err_from_is_err_and c.from_residual.result c.from_residual.ensures.1 in
    rw (p.1, p.2)
    (cut_on (flow R (length c.args.turns.items + left)) (flow R (length all + left)) whole _ _ _ _ c.in_err-world.field-0.0 (c.loop-turn.invariant.far whole left is)
    (λ v s. turns_cut R all c.in-Some.turn rest left v _ _ steps.0 s _ _ c.in_err-world.field-0.0 (c.in_err-world.ensures.cut v rest (length rest + left))))

pub returns-clause-comes : goal.returns-clause-comes
returns-clause-comes g c whole left is =
    let R = g.M.Machine.rules in
    let held = c.loop-turn.invariant in
    let all = c.loop-turn.turn-iterator.rest.items in
    let none : all ≡ [] = nil_from_length _ (held.long ∙ c.in-None.ensures.steps.0) in
    turns_end R (flow R (length c.args.turns.items + left)) all left whole _ _ _ (λ v. Shows v c.passed.result) none (held.far whole left is)
    (λ v s. c.passed.ensures v (none_is_out R v _ _ (rw none at s)))
