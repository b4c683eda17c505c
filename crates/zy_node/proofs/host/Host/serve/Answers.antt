use Rattle.std.proofs.Common.{◌∙◌, refl, sym, arith}
use Rattle.std.proofs.lemmas.Result.{err_from_is_err_and}
use Rattle.zy_node.proofs.RunLemmas.{all_taken, cut_off, done_early, no_turns, one_turn_more}
use Rattle.zy_node.proofs.host.Host.serve.Goals as goal

pub loop-init : goal.loop-init
loop-init g c = record { run = no_turns g.C.Core.rules c.args.self _; binding = refl; faults = refl }

pub returns-then-is_done-clause-run : goal.returns-then-is_done-clause-run
returns-then-is_done-clause-run g c =
    done_early g.C.Core.rules c.loop.counter c.args.turns c.args.self c.loop.host _ _ (omega arith) c.loop.invariant.run (sym c.is_done.ensures ∙ c.if-is_done.true)

pub returns-in_err-host-clause-run : goal.returns-in_err-host-clause-run
returns-in_err-host-clause-run g c =
    let p = err_from_is_err_and c.from_residual.result c.from_residual.ensures.1 in
    rw (p.1, p.2)
    (cut_off g.C.Core.rules c.loop.counter c.args.turns c.args.self c.loop.host c.in_err-host.field-0.0 _ _ _
    c.loop-test.true c.loop.invariant.run (sym c.is_done.ensures ∙ c.if-is_done.false) c.in_err-host.ensures.turn)

pub loop-preserved : goal.loop-preserved
loop-preserved g c = record {
  run = one_turn_more g.C.Core.rules c.loop.counter c.args.self c.loop.host c.in_ok-host.host _ _ _ c.loop.invariant.run (sym c.is_done.ensures ∙ c.if-is_done.false) c.in_ok-host.ensures.turn;
  binding = c.in_ok-host.ensures.binding ∙ c.loop.invariant.binding;
  faults = c.in_ok-host.ensures.count ∙ c.loop.invariant.faults;
}

pub returns-clause-run : goal.returns-clause-run
returns-clause-run g c = all_taken g.C.Core.rules c.loop.counter c.args.turns c.args.self c.loop.host _ _ (omega arith) c.loop.invariant.run
