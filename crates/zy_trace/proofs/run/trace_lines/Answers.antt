use Rattle.std.proofs.Common.{◌≡◌, [], rules, length, ap, ◌∙◌, arith}
use Rattle.std.proofs.lemmas.List.{nil_from_length}
use Rattle.std.proofs.lemmas.List.Elements.{All-head, All-tail}
use Rattle.std.proofs.lemmas.Result.{err_from_is_err_and}
use Rattle.zy_schedule.specs.Texts.{IsSaid}
use Rattle.zy_trace.proofs.Steps.{all_run, left_all, left_ends, left_none, left_then, line_begins}
use Rattle.zy_trace.proofs.run.trace_lines.Goals as goal
use Rattle.zy_trace.specs.Telling.{trace, trace_line}
use Rattle.zy_trace.specs.Tracing.{told_of}

pub loop-line-init : goal.loop-line-init
loop-line-init g c =
    let all = c.into_iter-line-iterator.ensures.into_iter_gives in
    record {
      long = search rules;
      said = rw all.0 c.requires.said;
      count = omega (arith, ap length all.0);
      left = λ whole shows. rw all.0 (left_none (trace g.M.Machine.rules c.args.lines.items) whole _ _ shows);
    }

pub trace_line-requires-clause-said : goal.trace_line-requires-clause-said
trace_line-requires-clause-said g c = All-head IsSaid c.in-Some.line c.next.new.self.rest.items (rw c.in-Some.ensures.steps.0 at c.loop-line.invariant.said)

pub trace_line-requires-clause-room : goal.trace_line-requires-clause-room
trace_line-requires-clause-room g c = omega (arith, c.loop-line.invariant.count, ap length c.in-Some.ensures.steps.0, c.requires.room)

pub returns-in_err-world-clause-traced : goal.returns-in_err-world-clause-traced
returns-in_err-world-clause-traced g c whole shows =
    let R = g.M.Machine.rules in
    let steps = c.in-Some.ensures.steps in
    let left = c.next.new.self.rest.items in
    let p = err_from_is_err_and c.from_residual.result c.from_residual.ensures.1 in
    rw (p.1, p.2)
    (left_ends (trace R c.args.lines.items whole (told_of c.args.trace.now)) (trace R c.loop-line.line-iterator.rest.items) (trace_line R c.in-Some.line) (trace R left) _ _ _ _
    (c.loop-line.invariant.left whole shows) c.in_err-world.ensures.traced (λ v shown. ap (λ ls. trace R ls v (told_of c.loop-line.trace)) steps.0 ∙ line_begins R c.in-Some.line left v (told_of c.loop-line.trace)))

pub returns-in_err-world-clause-count : goal.returns-in_err-world-clause-count
returns-in_err-world-clause-count g c = omega (arith, c.loop-line.invariant.count, c.trace_line.ensures.count, ap length c.in-Some.ensures.steps.0)

pub loop-line-preserved : goal.loop-line-preserved
loop-line-preserved g c =
    let R = g.M.Machine.rules in
    let held = c.loop-line.invariant in
    let steps = c.in-Some.ensures.steps in
    let left = c.next.new.self.rest.items in
    record {
      long = omega (arith, ap length steps.0, steps.1, held.long);
      said = All-tail IsSaid c.in-Some.line left (rw steps.0 at held.said);
      count = omega (arith, held.count, c.trace_line.ensures.count, ap length steps.0);
      left = λ whole shows.
          left_then (trace R c.args.lines.items whole (told_of c.args.trace.now)) (trace R c.loop-line.line-iterator.rest.items) (trace_line R c.in-Some.line) (trace R left) _ _ _ _
          (held.left whole shows) c.in_ok-world.ensures.traced (λ v shown. ap (λ ls. trace R ls v (told_of c.loop-line.trace)) steps.0 ∙ line_begins R c.in-Some.line left v (told_of c.loop-line.trace));
    }

pub returns-clause-traced : goal.returns-clause-traced
returns-clause-traced g c whole shows =
    let R = g.M.Machine.rules in
    let held = c.loop-line.invariant in
    let none : c.loop-line.line-iterator.rest.items ≡ [] = nil_from_length _ (held.long ∙ c.in-None.ensures.steps.0) in
    left_all _ (trace R c.loop-line.line-iterator.rest.items) _ _ (held.left whole shows) (λ v shown. ap (λ ls. trace R ls v (told_of c.loop-line.trace)) none ∙ all_run R v (told_of c.loop-line.trace))

pub returns-clause-count : goal.returns-clause-count
returns-clause-count g c = omega (arith, c.loop-line.invariant.count)
