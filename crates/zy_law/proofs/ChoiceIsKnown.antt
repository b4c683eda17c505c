-- The choice is known: some correct history of an earlier view passes it, and the anchor before it.
use Rattle.std.proofs.Common.{ℕ, ◌≤◌, List, sym, ap, subst, arith}
use Rattle.zy_chain.specs.Stretch.{Mark}
use Rattle.zy_choose.specs.Reports.{PlainReport}
use Rattle.zy_choose.specs.Choice.{last_in, IsAgreed, IsPicked}
use Rattle.zy_choose.specs.Choice.IsPicked.{agreed, anchored}
use Rattle.zy_law.specs.World.{World}
use Rattle.zy_law.specs.Said.{IsCorrect, Moment}
use Rattle.zy_law.specs.Lawful.{IsLawful, IsTrueReport}
use Rattle.zy_law.specs.Lists.{Extends, IsKnown}
use Rattle.zy_law.proofs.ListLemmas.{Extends-passed}
use Rattle.zy_law.proofs.QuorumLemmas.{one_reported}
use Rattle.zy_law.proofs.ReportLemmas.{supports, supports_count, supports_has, passes_has}
use Rattle.zy_law.proofs.OneView.{Together, solid_together}
use Rattle.zy_law.proofs.ReportedLemmas.{Reported, Ground, ground, told_truly}

-- the moment of a correct replica's report
pub reported_at : (w : World) (view number when : ℕ) (reports : List PlainReport) (r : ℕ) (report : PlainReport) → IsCorrect w r → IsTrueReport w r number when view report → Moment w
reported_at w view number when reports r report correct told = record { by = r; correct = correct; number = when; stand = told.stand; stood = told.stood }

module _ (w : World) (lawful : IsLawful w) (view : ℕ) (c : Reported w view) (m : Mark) (picked : IsPicked w.next w.counts.agree (last_in c.last c.reports) c.anchor m) where
  -- of an agreed mark one report is true
  agreed_together : IsAgreed w.next w.counts.agree (last_in c.last c.reports) c.anchor m → Together w c.last c.anchor m
  agreed_together is =
      let some = one_reported w lawful view c.reports (supports w.next c.last c.anchor m) c.valid
      (omega (arith, is.enough, w.counts.sound.true_agreement, supports_count w.next c.last c.anchor m c.reports)) in
      let told = told_truly w lawful view c.reports some.0 some.1 some.2 in
      let has = supports_has w.next c.last c.anchor m some.2.report some.3 in
      record {
        moment = record { by = some.0; correct = some.1; number = some.2.said.1.when; stand = told.stand; stood = told.stood };
        order = omega (arith, told.last, has.0);
        first = passes_has w.next told.stand.history some.2.report.stretch told.base told.entries c.anchor has.1;
        second = passes_has w.next told.stand.history some.2.report.stretch told.base told.entries m has.2;
      }

  picked_together : Ground w view c → IsPicked w.next w.counts.agree (last_in c.last c.reports) c.anchor m → Together w c.last c.anchor m
  picked_together g (agreed is most) = agreed_together is
  picked_together g (anchored none same) =
      subst (λ (k : Mark). Together w c.last c.anchor k) (sym same)
      (solid_together w lawful c.last g.begin c.anchor c.anchor g.is g.known g.solid g.solid)

  picked_order : IsPicked w.next w.counts.agree (last_in c.last c.reports) c.anchor m → c.anchor.place ≤ m.place
  picked_order (agreed is most) = omega (arith, is.past)
  picked_order (anchored none same) = omega (arith, ap (λ (k : Mark). k.place) same)

  pub choice_together : Together w c.last c.anchor m
  choice_together = picked_together (ground w lawful view c) picked

  pub choice_known : IsKnown w view m
  choice_known =
      let g = ground w lawful view c in
      record { moment = choice_together.moment; earlier = omega (arith, choice_together.order, g.earlier); passes = choice_together.second }

  pub choice_past_anchor : Extends w c.anchor m
  choice_past_anchor = Extends-passed w lawful choice_together.moment c.anchor m choice_together.first choice_together.second (picked_order picked)
