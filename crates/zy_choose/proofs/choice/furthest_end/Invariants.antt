use Rattle.std.proofs.Common.{◌≡◌, ℕ, ◌<◌, ◌≤◌, get_or}
use Rattle.zy_chain.specs.Stretch.{end_of}
use Rattle.zy_choose.specs.Reports.{PlainReport}
use Rattle.zy_choose.proofs.choice.furthest_end.Given as goal

-- no report of the view so far ends further
abbrev pub invariant-loop-report : goal.invariant-loop-report
invariant-loop-report l =
    (k : ℕ) (d : PlainReport) → k < l.report-index → (get_or l.reports k d).last_view ≡ l.view.0 → end_of (get_or l.reports k d).stretch ≤ l.end.0
