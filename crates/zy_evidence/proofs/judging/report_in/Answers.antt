use Rattle.std.proofs.Common.{◌∙◌, sym}
use Rattle.zy_evidence.proofs.JudgedLemmas.{judged_read, judged_broken}
use Rattle.zy_evidence.proofs.judging.report_in.Goals as goal

pub returns-in-Ok : goal.returns-in-Ok
returns-in-Ok c =
    judged_read c.args.counts.now c.args.interval c.args.change.now c.reporter.result c.reporter.ensures (sym c.rule_of_proofs.ensures ∙ c.in-None.is) c.in_ok-report-in-None.report c.in_ok-report-in-None.ensures c.in-Ok.ensures

pub returns-in-Err : goal.returns-in-Err
returns-in-Err c =
    judged_broken c.args.counts.now c.args.interval c.args.change.now c.reporter.result c.reporter.ensures (sym c.rule_of_proofs.ensures ∙ c.in-None.is) c.in_ok-report-in-None.report c.in_ok-report-in-None.ensures c.in-Err.rule c.in-Err.ensures
