use Rattle.std.proofs.Common.{◌≡◌, ◌+◌, ◌-◌, ◌∙◌, sym, arith}
use Rattle.std.proofs.lemmas.Result.{err_from_is_err_and}
use Rattle.zy_trace.proofs.Steps.{flow_begins, flow_done, flow_ends, left_all, left_ends, left_none, left_then}
use Rattle.zy_trace.proofs.run.trace_flow.Goals as goal
use Rattle.zy_trace.specs.Telling.{trace_delivery, trace_flow}
use Rattle.zy_trace.specs.Tracing.{told_of}

pub loop-init : goal.loop-init
loop-init g c =
    let all : c.args.events - 0 ≡ c.args.events = omega arith in
    record {
      count = omega arith;
      left = λ whole shows. rw all (left_none (trace_flow g.M.Machine.rules c.args.events) whole (told_of c.args.trace.now) c.args.world shows);
    }

pub returns-in_default-clause-traced : goal.returns-in_default-clause-traced
returns-in_default-clause-traced g c whole shows =
    let R = g.M.Machine.rules in
    left_all _ (trace_flow R (c.args.events - c.loop.counter)) _ _ (c.loop.invariant.left whole shows)
    (λ v shown. flow_ends R (c.args.events - c.loop.counter) v (told_of c.loop.trace) (sym (c.next_undelivered.ensures v shown) ∙ c.in_default.is))

pub returns-in_err-world-clause-traced : goal.returns-in_err-world-clause-traced
returns-in_err-world-clause-traced g c whole shows =
    let R = g.M.Machine.rules in
    let i = c.loop.counter in
    let p = err_from_is_err_and c.from_residual.result c.from_residual.ensures.1 in
    rw (p.1, p.2)
    (left_ends _ (trace_flow R (c.args.events - i)) (trace_delivery R c.in-Some.frame) (trace_flow R (c.args.events - (i + 1))) _ _ _ _
    (c.loop.invariant.left whole shows) c.in_err-world.ensures.traced
    (λ v shown. flow_begins R c.args.events i v c.in-Some.frame (told_of c.loop.trace) c.loop-test.true (sym (c.next_undelivered.ensures v shown) ∙ c.in-Some.is)))

pub loop-preserved : goal.loop-preserved
loop-preserved g c =
    let R = g.M.Machine.rules in
    let i = c.loop.counter in
    record {
      count = omega (arith, c.loop.invariant.count, c.trace_delivery.ensures.count);
      left = λ whole shows.
          left_then _ (trace_flow R (c.args.events - i)) (trace_delivery R c.in-Some.frame) (trace_flow R (c.args.events - (i + 1))) _ _ _ _
          (c.loop.invariant.left whole shows) c.in_ok-world.ensures.traced
          (λ v shown. flow_begins R c.args.events i v c.in-Some.frame (told_of c.loop.trace) c.loop-test.true (sym (c.next_undelivered.ensures v shown) ∙ c.in-Some.is));
    }

pub returns-clause-traced : goal.returns-clause-traced
returns-clause-traced g c whole shows =
    let R = g.M.Machine.rules in
    let left : c.args.events - c.loop.counter ≡ 0 = omega (arith, c.loop-test.false) in
    left_all _ (trace_flow R (c.args.events - c.loop.counter)) _ _ (c.loop.invariant.left whole shows)
    (λ v shown. flow_done R (c.args.events - c.loop.counter) v (told_of c.loop.trace) left)
