-- A valid new view with an anchor, where the choices of all earlier views are safe: all that its reports prove lies on
-- one list with the begin of their greatest last view.
use Rattle.std.proofs.Common.{◌≡◌, ℕ, ◌+◌, ◌<◌, ◌≤◌, inl, inr, List, [], Option, Some, refl, sym, ◌∙◌, subst, arith}
use Rattle.std.specs.Prelude.{slice_get, IfSome}
use Rattle.std.proofs.lemmas.Bool.{cases_lt}
use Rattle.zy_chain.specs.Stretch.{Mark}
use Rattle.zy_choose.specs.Reports.{PlainReport}
use Rattle.zy_choose.specs.Choice.{IsGreatestView, last_in, IsAnchor}
use Rattle.zy_law.specs.Fixed.{IsCertified, IsFixed}
use Rattle.zy_law.specs.Histories.{origin}
use Rattle.zy_law.specs.Reports.{IsProven, IsValidReport, IsValidNew}
use Rattle.zy_law.specs.World.{World}
use Rattle.zy_law.specs.Said.{IsCorrect, Moment, At}
use Rattle.zy_law.specs.Lawful.{IsLawful, IsTrueReport}
use Rattle.zy_law.specs.Lists.{Extends, IsKnown, AreChoicesSafe}
use Rattle.zy_law.proofs.HistoryLemmas.{Passes-origin}
use Rattle.zy_law.proofs.ListLemmas.{Extends-itself, Extends-origin}
use Rattle.zy_law.proofs.QuorumLemmas.{All_at, IsReporter, someone}
use Rattle.zy_law.proofs.ReportLemmas.{IsProvenBy, greatest_has, anchor_proven, anchor_furthest}
use Rattle.zy_law.proofs.ReportLemmas.IsProvenBy.{stable, began, spec}
use Rattle.zy_law.proofs.BeganOnce.{IsBegin, one_begin, begin_safe, begin_extends}
use Rattle.zy_law.proofs.OneView.{IsHeld, IsSolid, certified_held, fixed_held}
use Rattle.zy_law.proofs.OneView.IsSolid.{below, held}

pub record Reported (w : World) (view : ℕ) : Type 0 where
  pub reports : List PlainReport
  pub valid : IsValidNew w view reports
  pub safe : (earlier : ℕ) → earlier < view → AreChoicesSafe w earlier
  pub last : ℕ
  pub greatest : IsGreatestView reports last
  pub anchor : Mark
  pub anchored : IsAnchor (last_in last reports) anchor

-- with what the greatest last view began, and where the anchor lies
pub record Ground (w : World) (view : ℕ) (c : Reported w view) : Type 0 where
  pub begin : Mark
  pub is : IsBegin w c.last begin
  pub known : IsKnown w (c.last + 1) begin
  pub earlier : c.last < view
  pub begin_order : begin.place ≤ c.anchor.place
  pub solid : IsSolid w c.last begin c.anchor

module _ (w : World) (lawful : IsLawful w) where
  begin_known : (view : ℕ) (m : Mark) → IsBegin w view m → AreChoicesSafe w view → IsKnown w (view + 1) m
  begin_known view m is safe =
      elim (cases_lt 0 view) [
        | inl positive ↦
            let known = (begin_safe w lawful view m positive is safe).known in
            record { moment = known.moment; earlier = omega (arith, known.earlier); passes = known.passes }
        | inr none ↦
            let one = someone w lawful in
            let start : Moment w = record { by = one.0; correct = one.1; number = 0; stand = record { view = 0; history = [] }; stood = lawful.begins one.0 one.1 } in
            record { moment = start; earlier = omega arith; passes = subst (λ (k : Mark). At start k) (sym (is.first (omega arith))) (Passes-origin w.next []) }
      ]

  -- the mark of a report's last view begins it
  report_begin : (view last : ℕ) (r : PlainReport) → IsProven w view r → r.last_view ≡ last → IsBegin w last r.began
  report_begin view last r proven same = subst (λ (v : ℕ). IsBegin w v r.began) same (record { first = proven.began_first; later = proven.began_later })

  solid_stable : (view last : ℕ) (begin : Mark) (r : PlainReport) → IsProven w view r → r.last_view ≡ last → IsBegin w last begin → AreChoicesSafe w last
      → IsSolid w last begin r.stretch.base
  solid_stable view last begin r proven same is safe =
      elim (cases_lt 0 r.stretch.base.place) [
        | inl positive ↦
            let fixed : IsFixed w r.stable_view r.stretch.base = IsFixed.stable r.state (proven.stable_later positive) in
            elim (cases_lt r.stable_view last) [
              | inl earlier ↦ below (begin_extends w lawful last r.stable_view begin r.stretch.base is safe earlier fixed)
              | inr here ↦
                  let now : r.stable_view ≡ last = omega (arith, proven.stable_view) in
                  held (fixed_held w lawful last r.stretch.base (subst (λ (v : ℕ). IsFixed w v r.stretch.base) now fixed))
            ]
        | inr none ↦
            let first : r.stretch.base ≡ origin = proven.stable_first (omega arith) in
            below (subst (λ (k : Mark). Extends w k begin) (sym first) (Extends-origin w lawful begin))
      ]

  spec_certified : (view : ℕ) (o : Option Mark) (m : Mark) → o ≡ Some m → IfSome o (IsCertified w view) → IsCertified w view m
  spec_certified view o m is certified = subst (λ (x : Option Mark). IfSome x (IsCertified w view)) is certified

  -- each mark that a report proves is solid in its last view
  pub proven_solid : (view last : ℕ) (begin m : Mark) (r : PlainReport) → IsProven w view r → r.last_view ≡ last → IsBegin w last begin → AreChoicesSafe w last
      → IsProvenBy r m → IsSolid w last begin m
  proven_solid view last begin m r proven same is safe (stable e) =
      subst (λ (k : Mark). IsSolid w last begin k) (sym e) (solid_stable view last begin r proven same is safe)
  proven_solid view last begin m r proven same is safe (began e) =
      let one : begin ≡ m = one_begin w lawful last begin r.began is (report_begin view last r proven same) ∙ sym e in
      below (subst (λ (k : Mark). Extends w k begin) one (Extends-itself w lawful begin))
  proven_solid view last begin m r proven same is safe (spec e) =
      held (subst (λ (v : ℕ). IsHeld w v m) same (certified_held w lawful r.last_view m (spec_certified r.last_view r.spec m e proven.spec)))

  pub report_proven : (view : ℕ) (reports : List PlainReport) (place : ℕ) (r : PlainReport) → IsValidNew w view reports → slice_get reports place ≡ Some r → IsProven w view r
  report_proven view reports place r valid at = (All_at (IsValidReport w view) reports place r at valid.each).proven

  pub ground : (view : ℕ) (c : Reported w view) → Ground w view c
  ground view c =
      let one = greatest_has c.reports c.last c.greatest in
      let proven = report_proven view c.reports one.1.place one.0 c.valid one.1.at in
      let earlier : c.last < view = omega (arith, proven.earlier, one.1.last) in
      let safe = c.safe c.last earlier in
      let is = report_begin view c.last one.0 proven one.1.last in
      let anchor = anchor_proven c.reports c.last c.anchor c.anchored in
      record {
        begin = one.0.began;
        is = is;
        known = begin_known c.last one.0.began is safe;
        earlier = earlier;
        begin_order = anchor_furthest c.reports c.last c.anchor one.0.began one.0 c.anchored one.1 (began refl);
        solid = proven_solid view c.last one.0.began c.anchor anchor.0 (report_proven view c.reports anchor.1.place anchor.0 c.valid anchor.1.at) anchor.1.last is safe anchor.2;
      }

  -- what a correct replica's report says is true of where it stood
  pub told_truly : (view : ℕ) (reports : List PlainReport) (r : ℕ) → IsCorrect w r → (reporter : IsReporter w view reports r)
      → IsTrueReport w r reporter.said.0 reporter.said.1.when view reporter.report
  told_truly view reports r correct reporter = lawful.true_reports r reporter.said.0 reporter.said.1 view reporter.report correct reporter.said.2 reporter.said.3
