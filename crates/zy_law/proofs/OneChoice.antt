-- A valid new view has one anchor and one choice.
use Rattle.std.proofs.Common.{◌≡◌, ℕ, ◌*◌, ◌<◌, List, length, get_or, subst, arith}
use Rattle.std.proofs.lemmas.List.Elements.{Contains-get_or}
use Rattle.zy_chain.specs.Stretch.{Mark}
use Rattle.zy_choose.specs.Reports.{PlainReport, proven}
use Rattle.zy_choose.specs.Choice.{IsGreatestView, last_in, IsAnchor, IsOnlyAnchor, IsPicked, IsChoice}
use Rattle.zy_choose.proofs.OneAnswer.{one_view, one_anchor, one_picked, few_last_in}
use Rattle.zy_law.specs.Reports.{IsValidNew}
use Rattle.zy_law.specs.World.{World}
use Rattle.zy_law.specs.Lawful.{IsLawful}
use Rattle.zy_law.proofs.HistoryLemmas.{Passes-one}
use Rattle.zy_law.proofs.ReportLemmas.{IsLastIn, IsProvenBy, last_among, proven_by}
use Rattle.zy_law.proofs.OneView.{solid_together}
use Rattle.zy_law.proofs.ReportedLemmas.{Reported, ground, proven_solid, report_proven}
use Rattle.zy_law.proofs.ChoiceExtends.{all_choices_safe}

module _ (w : World) (lawful : IsLawful w) (view : ℕ) (reports : List PlainReport) (valid : IsValidNew w view reports) where
  reported_of : (last : ℕ) (anchor : Mark) → IsGreatestView reports last → IsAnchor (last_in last reports) anchor → Reported w view
  reported_of last anchor greatest is =
      record { reports = reports; valid = valid; safe = λ earlier below. all_choices_safe w lawful earlier; last = last; greatest = greatest; anchor = anchor; anchored = is }

  -- what a report proves at the anchor's place is the anchor
  proven_is_anchor : (last : ℕ) (anchor k : Mark) (r : PlainReport) → IsGreatestView reports last → IsAnchor (last_in last reports) anchor → IsLastIn reports last r
      → IsProvenBy r k → k.place ≡ anchor.place → k ≡ anchor
  unfolding reported_of
  proven_is_anchor last anchor k r greatest is in_last proved same =
      let c = reported_of last anchor greatest is in
      let g = ground w lawful view c in
      let solid = proven_solid w lawful view last g.begin k r (report_proven w lawful view reports in_last.place r valid in_last.at) in_last.last g.is
      (all_choices_safe w lawful last) proved in
      let both = solid_together w lawful last g.begin k anchor g.is g.known solid g.solid in
      Passes-one w.next both.moment.stand.history k anchor same both.first both.second

  pub only_anchor : (last : ℕ) (anchor : Mark) → IsGreatestView reports last → IsAnchor (last_in last reports) anchor → IsOnlyAnchor (last_in last reports) anchor
  only_anchor last anchor greatest is i r within j k inside same =
      let report = get_or (last_in last reports) i r in
      let in_last = last_among last reports report (Contains-get_or (last_in last reports) i r within) in
      let proved = proven_by report (get_or (proven report) j k) (Contains-get_or (proven report) j k inside) in
      proven_is_anchor last anchor (get_or (proven report) j k) report greatest is in_last proved same

  pub one_choice : (m k : Mark) → IsChoice w.next w.counts.agree reports m → IsChoice w.next w.counts.agree reports k → m ≡ k
  one_choice m k a b =
      let few : length reports < 2 * w.counts.agree = omega (arith, valid.many, w.counts.sound.two_agreements) in
      let view_is : b.view ≡ a.view = one_view reports b.view a.view b.greatest a.greatest in
      let anchored_b = subst (λ (v : ℕ). IsAnchor (last_in v reports) b.anchor) view_is b.anchored in
      let anchor_is = one_anchor (last_in a.view reports) a.anchor b.anchor a.anchored anchored_b (only_anchor a.view a.anchor a.greatest a.anchored) in
      let picked_b = subst (λ (v : ℕ). IsPicked w.next w.counts.agree (last_in v reports) b.anchor k) view_is b.picked in
      one_picked w.next w.counts.agree (last_in a.view reports) a.anchor m k (few_last_in w.counts.agree a.view reports few) a.picked
      (subst (λ (x : Mark). IsPicked w.next w.counts.agree (last_in a.view reports) x k) anchor_is picked_b)
