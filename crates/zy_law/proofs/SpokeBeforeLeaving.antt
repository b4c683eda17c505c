-- A correct replica that took part in a view and left for a later one took part first. So its report is of that view
-- or a later one, and where it is of that view, its history passes what it spoke of.
use Rattle.std.proofs.Common.{◌≡◌, ℕ, ◌<◌, ◌≤◌, inl, inr, Some, sym, ap, ◌∙◌, subst, arith}
use Rattle.std.specs.Prelude.{slice_get}
use Rattle.std.proofs.lemmas.Bool.{cases_order}
use Rattle.std.proofs.lemmas.Option.{same_Some}
use Rattle.zy_base.specs.declared.ids.Digest.{Digest}
use Rattle.zy_chain.specs.Stretch.{Mark}
use Rattle.zy_choose.specs.Reports.{PlainReport}
use Rattle.zy_law.specs.Histories.{Passes}
use Rattle.zy_law.specs.World.{Answer, Statement, Spoken, Stand, World}
use Rattle.zy_law.specs.World.Statement.{Spec, Local, Check, Change}
use Rattle.zy_law.specs.Said.{IsCorrect, Says, Moment}
use Rattle.zy_law.specs.Lawful.{IsLawful, StoodAt, IsTrueReport, view_of}
use Rattle.zy_law.proofs.HistoryLemmas.{Passes-longer}
use Rattle.zy_law.proofs.PastLemmas.{later_view, later_front}

-- a speculative response, a local commit or a checkpoint of the mark
pub data IsOf (view : ℕ) (m : Mark) (s : Statement) : Type 0 where
  response : (a : Answer) → s ≡ Spec view m a → IsOf view m s
  commit : s ≡ Local view m → IsOf view m s
  check : (state : Digest) → s ≡ Check view m state → IsOf view m s

pub IsOf-view : (view : ℕ) (m : Mark) (s : Statement) → IsOf view m s → view_of s ≡ Some view
IsOf-view view m s (response a e) = ap view_of e
IsOf-view view m s (commit e) = ap view_of e
IsOf-view view m s (check state e) = ap view_of e

module _ (w : World) (lawful : IsLawful w) where
  pub stood_for : (r number : ℕ) (x : Spoken) (view : ℕ) (m : Mark) → IsCorrect w r → Says w r number x → IsOf view m x.what → StoodAt w r x.when view m
  stood_for r number x view m correct says (response a e) = (lawful.true_responses r number x view m a correct says e).at
  stood_for r number x view m correct says (commit e) = (lawful.true_commits r number x view m correct says e).at
  stood_for r number x view m correct says (check state e) = (lawful.true_checks r number x view m state correct says e).vote.at

  pub moment_of : (r when view : ℕ) (m : Mark) → IsCorrect w r → StoodAt w r when view m → Moment w
  moment_of r when view m correct at = record { by = r; correct = correct; number = when; stand = at.stand; stood = at.stood }

  pub spoke_first : (r number later : ℕ) (x y : Spoken) (view next : ℕ) (m : Mark) (report : PlainReport) → IsCorrect w r → Says w r number x → Says w r later y
      → IsOf view m x.what → y.what ≡ Change next report → view < next → number < later
  spoke_first r number later x y view next m report correct says_x says_y of left below =
      elim (cases_order number later) [
        | inl same ↦
            let one : x ≡ y = same_Some x y (sym says_x ∙ ap (λ (k : ℕ). slice_get (w.said r) k) same ∙ says_y) in
            let none : view_of (Change next report) ≡ Some view = subst (λ (s : Statement). view_of s ≡ Some view) (ap (λ (z : Spoken). z.what) one ∙ left) (IsOf-view view m x.what of) in
            absurd (cc none)
        | inr (inl before) ↦ before
        | inr (inr after) ↦
            let still = lawful.silence r later number y x next view report correct says_y says_x after left (IsOf-view view m x.what of) in
            absurd (omega arith)
      ]

  pub record ReportsLater (r view : ℕ) (m : Mark) (last : ℕ) (stand : Stand) : Type 0 where
    pub order : view ≤ last
    pub passes : last ≡ view → Passes w.next stand.history m

  pub reports_later : (r number later : ℕ) (x y : Spoken) (view next : ℕ) (m : Mark) (report : PlainReport) → IsCorrect w r → Says w r number x → Says w r later y
      → IsOf view m x.what → y.what ≡ Change next report → view < next → (report_is : IsTrueReport w r later y.when next report)
      → ReportsLater r view m report.last_view report_is.stand
  reports_later r number later x y view next m report correct says_x says_y of left below report_is =
      let first = spoke_first r number later x y view next m report correct says_x says_y of left below in
      let at = stood_for r number x view m correct says_x of in
      let when = lawful.said_in_order r number later x y correct says_x says_y first in
      record {
        order = omega (arith, later_view w lawful r x.when y.when at.stand report_is.stand correct when at.stood report_is.stood, at.view_is, report_is.last);
        passes = λ same. Passes-longer w.next at.stand.history report_is.stand.history m
            (later_front w lawful r x.when y.when at.stand report_is.stand correct when at.stood report_is.stood (at.view_is ∙ sym same ∙ report_is.last)) at.passes;
      }
