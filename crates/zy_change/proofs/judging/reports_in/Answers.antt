use Rattle.std.proofs.Common.{sym, ◌∙◌}
use Rattle.zy_change.proofs.JudgingLemmas.{first_here, read_more, later_same}
use Rattle.zy_change.proofs.judging.reports_in.Goals as goal

pub returns-in-Err : goal.returns-in-Err
returns-in-Err c =
    first_here c.args.machine.now.counts c.args.machine.now.interval c.args.changes.now c.loop-change.change-index c.change-item.result c.loop-change-test.true c.change-item.is c.in-Err.rule c.loop-change.invariant.1
    (sym c.in-Err.is ∙ c.in_ok-rule.ensures)

pub loop-change-preserved : goal.loop-change-preserved
loop-change-preserved c =
    let v = c.args.machine.now in
    let judged = sym c.in-Ok.is ∙ c.in_ok-rule.ensures in (
      read_more v.counts v.interval c.args.changes.now c.loop-change.change-index c.change-item.result c.loop-change-test.true c.change-item.is c.in-Ok.report c.loop-change.reports c.push.new.self c.loop-change.invariant.0
          c.in_ok-push-in-Ok.ensures.ok judged,
      later_same v.counts v.interval c.args.changes.now c.loop-change.change-index c.change-item.result c.loop-change-test.true c.change-item.is c.in-Ok.report c.loop-change.invariant.1 judged,
    )
