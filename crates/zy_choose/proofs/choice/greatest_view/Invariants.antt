use Rattle.std.proofs.Common.{◌≡◌, ℕ, ◌<◌, ◌≤◌, Any, get_or}
use Rattle.zy_choose.specs.Reports.{PlainReport}
use Rattle.zy_choose.proofs.choice.greatest_view.Given as goal

-- some report has it, and none so far a greater one
abbrev pub invariant-loop-report : goal.invariant-loop-report
invariant-loop-report l =
    Any (λ r. r.last_view ≡ l.view.0) l.reports
    × ((k : ℕ) (d : PlainReport) → k < l.report-index → (get_or l.reports k d).last_view ≤ l.view.0)
