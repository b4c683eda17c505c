use Rattle.std.proofs.Common.{◌≡◌, ℕ, ◌<◌, get_or}
use Rattle.zy_chain.specs.Stretch.{Mark}
use Rattle.zy_choose.specs.Choice.{IsAgreed, last_in}
use Rattle.zy_choose.specs.Marks.{Has, link, mark_of}
use Rattle.zy_choose.specs.Reports.{PlainReport}
use Rattle.zy_choose.proofs.choice.agreed_at.Given as goal

-- no mark at the place that a report of the view so far has is agreed on
abbrev pub invariant-loop-report : goal.invariant-loop-report
invariant-loop-report l =
    (k : ℕ) (d : PlainReport) (m : Mark) → k < l.report-index → (get_or l.reports k d).last_view ≡ l.view.0 → m.place ≡ l.place.0
    → Has link (get_or l.reports k d).stretch m → IsAgreed link l.agree (last_in l.view.0 l.reports) (mark_of l.anchor) m → ⊥
