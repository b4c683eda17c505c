-- What is chosen out of a proper new view is the law's choice, and two anchors never stand in it.
use Rattle.std.proofs.Common.{◌≡◌, ℕ, ◌<◌, ◌*◌, List, length, map, sym, ◌∙◌, subst, arith}
use Rattle.std.proofs.lemmas.List.{length-map}
use Rattle.std.proofs.lemmas.List.Elements.{All-map}
use Rattle.std.specs.Prelude.{All, IfSome}
use Rattle.zy_base.specs.declared.ids.Digest.{Digest}
use Rattle.zy_base.specs.declared.ids.Place.{Place}
use Rattle.zy_chain.specs.declared.entry.Entry.{Entry}
use Rattle.zy_chain.specs.Stretch.{Mark}
use Rattle.zy_change.proofs.ChoosingLemmas.{chosen}
use Rattle.zy_change.specs.Choosing.{choice_of}
use Rattle.zy_choose.specs.Choice.{IsChoice, IsChosen}
use Rattle.zy_choose.specs.Marks.{link}
use Rattle.zy_choose.specs.Reports.{PlainReport}
use Rattle.zy_choose.specs.Rules.{Fits}
use Rattle.zy_choose.specs.declared.choice.Choice.{Choice}
use Rattle.zy_choose.specs.declared.choice.Choice.TheVariants.{Chosen, AnchorClash}
use Rattle.zy_evidence.specs.Reading.{read}
use Rattle.zy_law.proofs.OneChoice.{only_anchor}
use Rattle.zy_law.specs.Lawful.{IsLawful}
use Rattle.zy_law.specs.World.{World}
use Rattle.zy_parts.specs.declared.reports.New.{New}
use Rattle.zy_law_views.specs.Held.{mark_at, IsProperNew}
use Rattle.zy_law_views.proofs.ProvenReports.{new_valid}
use Rattle.zy_law_views.proofs.SomeChoice.{some_choice}

abbrev IsChosenBy : ℕ → List PlainReport → Choice → Type 0
IsChosenBy agree reports (Chosen provider place head) = IsChosen link agree reports provider (mark_at place head)
IsChosenBy agree reports (AnchorClash first second) = Unit {0}

module _ (w : World) (lawful : IsLawful w) (links : w.next ≡ link) (interval : ℕ) (n : New) (is : IsProperNew w interval n) where
  some_agree : 0 < w.counts.agree
  some_agree = omega (arith, w.counts.sound.true_agreement)

  some_reports : 0 < length (map read n.changes)
  some_reports = omega (arith, length-map n.changes read, is.many, w.counts.sound.fast_and_change, w.counts.sound.fast_in_reach, w.counts.sound.true_agreement)

  few_reports : length (map read n.changes) < 2 * w.counts.agree
  few_reports = omega (arith, length-map n.changes read, is.many, w.counts.sound.two_agreements)

  began_fits : All (λ r. Fits r.stretch r.began) (map read n.changes)
  began_fits = All-map (λ (r : PlainReport). Fits r.stretch r.began) read n.changes (λ k d within. (is.well_formed k d within).itself.began)

  spec_fits : All (λ r. IfSome r.spec (Fits r.stretch)) (map read n.changes)
  spec_fits = All-map (λ (r : PlainReport). IfSome r.spec (Fits r.stretch)) read n.changes (λ k d within. (is.well_formed k d within).itself.spec)

  there : (provider : ℕ) × (m : Mark) × IsChosen link w.counts.agree (map read n.changes) provider m
  there =
      some_choice w.counts.agree (map read n.changes) some_agree some_reports began_fits spec_fits
      (λ view anchor greatest at. only_anchor w lawful n.view.0 (map read n.changes) (new_valid w interval n is) view anchor greatest at)

  answered : Chosen there.0 (record { 0 = there.1.place }) there.1.head ≡ choice_of w.counts.agree (map read n.changes)
  answered = chosen w.counts.agree (map read n.changes) some_agree some_reports began_fits spec_fits (Chosen there.0 (record { 0 = there.1.place }) there.1.head) few_reports there.2

  pub chosen_is : (provider : ℕ) (place : Place) (head : Digest) → choice_of w.counts.agree (map read n.changes) ≡ Chosen provider place head
      → IsChosen link w.counts.agree (map read n.changes) provider (mark_at place head)
  chosen_is provider place head told =
      let same : Chosen there.0 (record { 0 = there.1.place }) there.1.head ≡ Chosen provider place head = answered ∙ told in
      subst (λ (c : Choice). IsChosenBy w.counts.agree (map read n.changes) c) same there.2

  pub never_clashes : (first second : Digest) → choice_of w.counts.agree (map read n.changes) ≡ AnchorClash first second → ⊥
  never_clashes first second told = let same = answered ∙ told in absurd cc

  pub lawful_choice : (provider : ℕ) (m : Mark) → IsChosen link w.counts.agree (map read n.changes) provider m → IsChoice w.next w.counts.agree (map read n.changes) m
  lawful_choice provider m chosen = subst (λ (next : Digest → Entry → Digest). IsChoice next w.counts.agree (map read n.changes) m) (sym links) chosen.choice
