-- Where a mark is fixed by matching responses alone in the greatest last view itself, and the anchor isn't as far,
-- enough true reports have it. So there is an agreed mark, as far or further, and a true report has both.
use Rattle.std.proofs.Common.{◌≡◌, ℕ, ◌<◌, ◌≤◌, Bool, true, not, ◌&&◌, inl, inr, refl, ap, ◌∙◌, arith}
use Rattle.std.proofs.lemmas.Bool.{and_parts, not-true, cases_lt}
use Rattle.zy_chain.specs.Stretch.{Mark}
use Rattle.zy_choose.specs.Reports.{PlainReport}
use Rattle.zy_choose.specs.Choice.{last_in, IsAgreed, IsPicked}
use Rattle.zy_choose.specs.Choice.IsPicked.{agreed, anchored}
use Rattle.zy_law.specs.Counting.{count_below}
use Rattle.zy_law.specs.Fixed.{IsFixed}
use Rattle.zy_law.specs.Histories.{Passes}
use Rattle.zy_law.specs.World.{Answer, World}
use Rattle.zy_law.specs.World.Statement.{Spec}
use Rattle.zy_law.specs.Said.{IsCorrect, Moment, At, IsBacked}
use Rattle.zy_law.specs.Lawful.{IsLawful}
use Rattle.zy_law.specs.Lists.{Extends}
use Rattle.zy_law.proofs.CountLemmas.{named, named_found, named_from, count_shared, count_inside, count_fewer, counted}
use Rattle.zy_law.proofs.ListLemmas.{Extends-passed, Extends-further, passed_below}
use Rattle.zy_law.proofs.QuorumLemmas.{vouchers, everyone, vouchers_count, vouchers_said, everyone_count, reporters_count, reporter_of, IsReporter}
use Rattle.zy_law.proofs.ReportLemmas.{supports, supports_count, supports_from, supports_has, has_passes, passes_has, anchor_furthest, greatest_of}
use Rattle.zy_law.proofs.ReportLemmas.IsProvenBy.{stable}
use Rattle.zy_law.proofs.SpokeBeforeLeaving.IsOf.{response}
use Rattle.zy_law.proofs.OneView.{solid_together, fixed_held}
use Rattle.zy_law.proofs.OneView.IsSolid.{held}
use Rattle.zy_law.proofs.ReportedLemmas.{Reported, ground, told_truly}
use Rattle.zy_law.proofs.ChoiceIsKnown.{choice_past_anchor}
use Rattle.zy_law.proofs.GreatestView.{spoken_later}
use Rattle.zy_law.proofs.SlowPlaces.{fixed_below_anchor}

module _ (w : World) (lawful : IsLawful w) (view : ℕ) (c : Reported w view) (m : Mark) (picked : IsPicked w.next w.counts.agree (last_in c.last c.reports) c.anchor m) (k : Mark) (a : Answer) (backed : IsBacked w w.counts.fast (Spec c.last k a)) where
  -- the correct replicas that responded and report
  true_sayer : ℕ → Bool
  true_sayer r = (vouchers backed r && everyone c.reports r) && not (w.liar r)

  -- what such a replica's report has
  record IsSayer (r : ℕ) : Type 0 where
    correct : IsCorrect w r
    reporter : IsReporter w view c.reports r
    passes : Passes w.next (told_truly w lawful view c.reports r correct reporter).stand.history k
    supported : supports w.next c.last c.anchor k reporter.report ≡ true

  fixed : IsFixed w c.last k
  fixed = IsFixed.fast a backed

  anchor_below : c.anchor.place < k.place → Extends w c.anchor k
  anchor_below past =
      let g = ground w lawful view c in
      let both = solid_together w lawful c.last g.begin c.anchor k g.is g.known g.solid (held (fixed_held w lawful c.last k fixed)) in
      Extends-passed w lawful both.moment c.anchor k both.first both.second (omega arith)

  sayer : c.anchor.place < k.place → (r : ℕ) → true_sayer r ≡ true → IsSayer r
  unfolding true_sayer everyone
  sayer past r among =
      let outer = and_parts (vouchers backed r && everyone c.reports r) (not (w.liar r)) among in
      let inner = and_parts (vouchers backed r) (everyone c.reports r) outer.0 in
      let honest = not-true (w.liar r) outer.1 in
      let said = vouchers_said w lawful w.counts.fast (Spec c.last k a) backed r inner.0 honest in
      let found = named_found (λ (x : PlainReport). x.by) (λ x. true) c.reports r inner.1 in
      let own = reporter_of w lawful view c.reports c.valid r found.0 found.1 found.2 found.4 honest in
      let reporter = own.1 in
      let told = told_truly w lawful view c.reports r said.0 reporter in
      let g = ground w lawful view c in
      let at = spoken_later w lawful view c r c.last k (Spec c.last k a) g.earlier (response a refl) said.0 said.1 reporter in
      let last : reporter.report.last_view ≡ c.last =
      omega (arith, at.order, greatest_of c.reports c.last reporter.place reporter.report c.greatest reporter.at) in
      let moment : Moment w = record { by = r; correct = said.0; number = reporter.said.1.when; stand = told.stand; stood = told.stood } in
      let passes_k : At moment k = at.passes last in
      let passes_anchor : At moment c.anchor = passed_below w lawful moment c.anchor k (anchor_below past) passes_k in
      let base = anchor_furthest c.reports c.last c.anchor reporter.report.stretch.base reporter.report c.anchored
      (record { place = reporter.place; at = reporter.at; last = last }) (stable refl) in
      record {
        correct = said.0;
        reporter = reporter;
        passes = passes_k;
        supported = supports_from w.next c.last c.anchor k reporter.report last
            (has_passes w.next told.stand.history reporter.report.stretch told.base told.entries c.anchor base passes_anchor)
            (has_passes w.next told.stand.history reporter.report.stretch told.base told.entries k (omega arith) passes_k);
      }

  sayers_count : w.counts.agree ≤ count_below w.counts.n true_sayer
  unfolding true_sayer
  sayers_count =
      omega (
        arith,
        count_shared w.counts.n (vouchers backed) (everyone c.reports) w.liar,
        vouchers_count w lawful w.counts.fast (Spec c.last k a) backed,
        everyone_count w lawful view c.reports c.valid,
        lawful.few_liars,
        w.counts.sound.fast_and_change,
      )

  -- so it is agreed on
  fast_agreed : c.anchor.place < k.place → IsAgreed w.next w.counts.agree (last_in c.last c.reports) c.anchor k
  fast_agreed past =
      let test = supports w.next c.last c.anchor k in
      let each : (r : ℕ) → true_sayer r ≡ true → named (λ (x : PlainReport). x.by) test c.reports r ≡ true =
      λ r among. let s = sayer past r among in named_from (λ (x : PlainReport). x.by) test c.reports r s.reporter.place s.reporter.report s.reporter.at s.supported s.reporter.by in
      record {
        past = past;
        enough = omega (
          arith,
          sayers_count,
          count_fewer w.counts.n true_sayer (named (λ (x : PlainReport). x.by) test c.reports) each,
          reporters_count w lawful view c.reports test c.valid,
          supports_count w.next c.last c.anchor k c.reports,
        );
      }

  -- and a true report has both what is fixed and what is agreed
  shared_report : c.anchor.place < k.place → IsAgreed w.next w.counts.agree (last_in c.last c.reports) c.anchor m → k.place ≤ m.place → Extends w k m
  unfolding true_sayer everyone
  shared_report past is order =
      let test = supports w.next c.last c.anchor m in
      let supporter = named (λ (x : PlainReport). x.by) test c.reports in
      let first : (r : ℕ) → true_sayer r ≡ true → everyone c.reports r ≡ true =
      λ r among. (and_parts (vouchers backed r) (everyone c.reports r) (and_parts (vouchers backed r && everyone c.reports r) (not (w.liar r)) among).0).1 in
      let second : (r : ℕ) → supporter r ≡ true → everyone c.reports r ≡ true =
      λ r among. let f = named_found (λ (x : PlainReport). x.by) test c.reports r among in named_from (λ (x : PlainReport). x.by) (λ x. true) c.reports r f.0 f.1 f.2 refl f.4 in
      let some : 0 < count_below w.counts.n (λ r. true_sayer r && supporter r) =
      omega (
        arith,
        sayers_count,
        count_inside w.counts.n true_sayer supporter (everyone c.reports) first second,
        everyone_count w lawful view c.reports c.valid,
        reporters_count w lawful view c.reports test c.valid,
        supports_count w.next c.last c.anchor m c.reports,
        is.enough,
        w.counts.sound.two_agreements,
      ) in
      let one = counted w.counts.n (λ r. true_sayer r && supporter r) some in
      let both = and_parts (true_sayer one.0) (supporter one.0) one.2 in
      let s = sayer past one.0 both.0 in
      let found = named_found (λ (x : PlainReport). x.by) test c.reports one.0 both.1 in
      let other = reporter_of w lawful view c.reports c.valid one.0 found.0 found.1 found.2 found.4 s.correct.honest in
      let same : s.reporter.report ≡ found.1 =
      lawful.one_report one.0 s.reporter.said.0 other.1.said.0 s.reporter.said.1 other.1.said.1 view s.reporter.report other.1.report s.correct s.reporter.said.2 other.1.said.2
      s.reporter.said.3 other.1.said.3 ∙ other.2 in
      let told = told_truly w lawful view c.reports one.0 s.correct s.reporter in
      let has = supports_has w.next c.last c.anchor m s.reporter.report (ap test same ∙ found.3) in
      let moment : Moment w = record { by = one.0; correct = s.correct; number = s.reporter.said.1.when; stand = told.stand; stood = told.stood } in
      Extends-passed w lawful moment k m s.passes (passes_has w.next told.stand.history s.reporter.report.stretch told.base told.entries m has.2) order

  past_anchor : c.anchor.place < k.place → IsPicked w.next w.counts.agree (last_in c.last c.reports) c.anchor m → Extends w k m
  past_anchor past (agreed is most) = shared_report past is (most k (fast_agreed past))
  past_anchor past (anchored none same) = absurd (none k (fast_agreed past))

  pub fast_carried : Extends w k m
  fast_carried =
      elim (cases_lt c.anchor.place k.place) [
        | inl past ↦ past_anchor past picked
        | inr order ↦ Extends-further w lawful k c.anchor m (fixed_below_anchor w lawful view c k fixed order) (choice_past_anchor w lawful view c m picked)
      ]
