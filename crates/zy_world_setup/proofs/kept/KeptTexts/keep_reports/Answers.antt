use Rattle.std.proofs.Common.{rules, ◌≡◌, ℕ, suc, ◌+◌, List, ◌++◌, take, drop, sym, subst, arith}
use Rattle.std.specs.List.{flat_map}
use Rattle.zy_world_law.specs.Texts.{report_texts}
use Rattle.zy_world_setup.specs.Kept.{Keeps, Clashes}
use Rattle.zy_world_setup.proofs.KeptLemmas.{keeps_both, clashes_first, clashes_then, flat_next, flat_split}
use Rattle.zy_world_setup.proofs.kept.KeptTexts.keep_reports.Goals as goal

pub returns-in_err-keep_report-clause-clash : goal.returns-in_err-keep_report-clause-clash
returns-in_err-keep_report-clause-clash c d err =
    let reports = c.args.reports.now in
    let i = c.loop-report.report-index in
    let report = c.report-item.result in
    let old = c.args.self.now in
    let mid = c.loop-report.self in
    let rest = flat_map report_texts (drop (suc i) reports) in
    subst (λ (l : List (List ℕ)). Clashes l old d) (sym (flat_split report_texts reports i report c.loop-report-test.true c.report-item.is))
    (clashes_then (flat_map report_texts (take i reports)) (report_texts report ++ rest) old mid d c.loop-report.invariant
    (clashes_first (report_texts report) rest mid d (c.in_err-keep_report.ensures.clash d (search rules))))

pub loop-report-preserved : goal.loop-report-preserved
loop-report-preserved c =
    let reports = c.args.reports.now in
    let i = c.loop-report.report-index in
    let report = c.report-item.result in
    let old = c.args.self.now in
    let new = c.keep_report.new.self in
    let next : i + 1 ≡ suc i = omega arith in
    subst (λ (n : ℕ). Keeps (flat_map report_texts (take n reports)) old new) (sym next)
    (subst (λ (l : List (List ℕ)). Keeps l old new) (sym (flat_next report_texts reports i report c.loop-report-test.true c.report-item.is))
    (keeps_both (flat_map report_texts (take i reports)) (report_texts report) old c.loop-report.self new c.loop-report.invariant c.in_ok-keep_report.ensures.keeps))
