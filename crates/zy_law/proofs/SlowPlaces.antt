-- Where a mark is fixed by local commits or checkpoints in the greatest last view itself, a correct reporter voted for
-- it, so its certificate is as far, and the anchor is.
use Rattle.std.proofs.Common.{◌≡◌, ℕ, ◌≤◌, sym, subst, arith}
use Rattle.zy_chain.specs.Stretch.{Mark}
use Rattle.zy_law.specs.Fixed.{IsFixed}
use Rattle.zy_law.specs.World.{Statement, World}
use Rattle.zy_law.specs.Said.{IsCorrect, HasSaid, IsBacked}
use Rattle.zy_law.specs.Lawful.{IsLawful, IsVote}
use Rattle.zy_law.specs.Lists.{Extends}
use Rattle.zy_law.proofs.ListLemmas.{Extends-passed}
use Rattle.zy_law.proofs.QuorumLemmas.{IsReporter, said_and_reported}
use Rattle.zy_law.proofs.ReportLemmas.{anchor_furthest, greatest_of}
use Rattle.zy_law.proofs.ReportLemmas.IsProvenBy.{spec}
use Rattle.zy_law.proofs.SpokeBeforeLeaving.{IsOf, spoke_first}
use Rattle.zy_law.proofs.OneView.{solid_together, fixed_held}
use Rattle.zy_law.proofs.OneView.IsSolid.{held}
use Rattle.zy_law.proofs.ReportedLemmas.{Reported, ground, told_truly}
use Rattle.zy_law.proofs.GreatestView.{spoken_later}

module _ (w : World) (lawful : IsLawful w) (view : ℕ) (c : Reported w view) where
  -- a mark that is fixed in the greatest last view lies below the anchor where it isn't past it
  pub fixed_below_anchor : (k : Mark) → IsFixed w c.last k → k.place ≤ c.anchor.place → Extends w k c.anchor
  fixed_below_anchor k fixed order =
      let g = ground w lawful view c in
      let both = solid_together w lawful c.last g.begin k c.anchor g.is g.known (held (fixed_held w lawful c.last k fixed)) g.solid in
      Extends-passed w lawful both.moment k c.anchor both.first both.second order

  -- the anchor is as far as each vote of a correct reporter in that view
  voted_order : (r : ℕ) (k : Mark) (s : Statement) → IsOf c.last k s → IsVote c.last k s → IsCorrect w r → HasSaid w r s → IsReporter w view c.reports r
      → k.place ≤ c.anchor.place
  voted_order r k s of vote correct said reporter =
      let g = ground w lawful view c in
      let told = told_truly w lawful view c.reports r correct reporter in
      let at = spoken_later w lawful view c r c.last k s g.earlier of correct said reporter in
      let last : reporter.report.last_view ≡ c.last =
      omega (arith, at.order, greatest_of c.reports c.last reporter.place reporter.report c.greatest reporter.at) in
      let first = spoke_first w lawful r said.0 reporter.said.0 said.1 reporter.said.1 c.last view k reporter.report correct said.2 reporter.said.2
      (subst (λ (x : Statement). IsOf c.last k x) (sym said.3) of) reporter.said.3 g.earlier in
      let covered = told.covered said.0 said.1 k first said.2
      (subst (λ (v : ℕ). IsVote v k said.1.what) (sym last) (subst (λ (x : Statement). IsVote c.last k x) (sym said.3) vote)) in
      let furthest = anchor_furthest c.reports c.last c.anchor covered.spec reporter.report c.anchored
      (record { place = reporter.place; at = reporter.at; last = last }) (spec covered.held) in
      omega (arith, covered.far, furthest)

  pub voted_carried : (k : Mark) (s : Statement) → IsOf c.last k s → IsVote c.last k s → IsFixed w c.last k → IsBacked w w.counts.local s → Extends w k c.anchor
  voted_carried k s of vote fixed backed =
      let one = said_and_reported w lawful w.counts.local s view c.reports backed c.valid w.counts.sound.local_and_change in
      fixed_below_anchor k fixed (voted_order one.0 k s of vote one.1 one.2 one.3)
