-- The greatest last view in the reports isn't below a view in which something is fixed: a correct replica both took
-- part in fixing it and reports.
use Rattle.std.proofs.Common.{ℕ, ◌+◌, ◌<◌, ◌≤◌, refl, sym, subst, arith}
use Rattle.zy_chain.specs.Stretch.{Mark}
use Rattle.zy_law.specs.Fixed.{IsFixed}
use Rattle.zy_law.specs.Fixed.IsFixed.{fast, slow, stable}
use Rattle.zy_law.specs.World.{Statement, World}
use Rattle.zy_law.specs.World.Statement.{Spec, Local, Check}
use Rattle.zy_law.specs.Said.{IsCorrect, HasSaid, IsBacked}
use Rattle.zy_law.specs.Lawful.{IsLawful}
use Rattle.zy_law.proofs.QuorumLemmas.{IsReporter, said_and_reported}
use Rattle.zy_law.proofs.ReportLemmas.{greatest_of}
use Rattle.zy_law.proofs.SpokeBeforeLeaving.{IsOf, ReportsLater, reports_later}
use Rattle.zy_law.proofs.SpokeBeforeLeaving.IsOf.{response, commit, check}
use Rattle.zy_law.proofs.ReportedLemmas.{Reported, told_truly}

module _ (w : World) (lawful : IsLawful w) (view : ℕ) (c : Reported w view) where
  -- what a correct reporter spoke of in an earlier view
  pub spoken_later : (r earlier : ℕ) (k : Mark) (s : Statement) → earlier < view → IsOf earlier k s → (correct : IsCorrect w r) → (said : HasSaid w r s) → (reporter : IsReporter w view c.reports r)
      → ReportsLater w lawful r earlier k reporter.report.last_view (told_truly w lawful view c.reports r correct reporter).stand
  spoken_later r earlier k s below of correct said reporter =
      reports_later w lawful r said.0 reporter.said.0 said.1 reporter.said.1 earlier view k reporter.report correct said.2 reporter.said.2
      (subst (λ (x : Statement). IsOf earlier k x) (sym said.3) of) reporter.said.3 below (told_truly w lawful view c.reports r correct reporter)

  pub not_later : (r earlier : ℕ) (k : Mark) (s : Statement) → earlier < view → IsOf earlier k s → IsCorrect w r → HasSaid w r s → IsReporter w view c.reports r
      → earlier ≤ c.last
  not_later r earlier k s below of correct said reporter =
      let at = spoken_later r earlier k s below of correct said reporter in
      omega (arith, at.order, greatest_of c.reports c.last reporter.place reporter.report c.greatest reporter.at)

  backed_not_later : (count earlier : ℕ) (k : Mark) (s : Statement) → earlier < view → IsOf earlier k s → IsBacked w count s → w.counts.n + w.counts.f < count + w.counts.change
      → earlier ≤ c.last
  backed_not_later count earlier k s below of backed enough =
      let one = said_and_reported w lawful count s view c.reports backed c.valid enough in
      not_later one.0 earlier k s below of one.1 one.2 one.3

  pub fixed_not_later : (earlier : ℕ) (k : Mark) → earlier < view → IsFixed w earlier k → earlier ≤ c.last
  fixed_not_later earlier k below (fast a backed) =
      backed_not_later w.counts.fast earlier k (Spec earlier k a) below (response a refl) backed (omega (arith, w.counts.sound.fast_and_change, w.counts.sound.true_agreement))
  fixed_not_later earlier k below (slow certified backed) =
      backed_not_later w.counts.local earlier k (Local earlier k) below (commit refl) backed w.counts.sound.local_and_change
  fixed_not_later earlier k below (stable state backed) =
      backed_not_later w.counts.local earlier k (Check earlier k state) below (check state refl) backed w.counts.sound.local_and_change
