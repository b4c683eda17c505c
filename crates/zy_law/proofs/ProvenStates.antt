-- What more than f replicas say of a checkpoint is the state of every correct history with its mark.
use Rattle.std.proofs.Common.{◌≡◌, ℕ, ◌-◌, ◌<◌, List, length, take, drop, sym, ap, ◌∙◌, arith}
use Rattle.std.specs.Prelude.{fold}
use Rattle.std.proofs.lemmas.List.{length-take-le, length-drop}
use Rattle.std.proofs.lemmas.List.Sums.{fold-append}
use Rattle.zy_base.specs.declared.ids.Digest.{Digest}
use Rattle.zy_chain.specs.declared.entry.Entry.{Entry}
use Rattle.zy_chain.specs.Heads.{empty_head}
use Rattle.zy_chain.specs.Stretch.{Mark, Stretch}
use Rattle.zy_choose.specs.Marks.{Has}
use Rattle.zy_law.specs.Histories.{AreKept}
use Rattle.zy_law.specs.World.{World}
use Rattle.zy_law.specs.World.Statement.{Check}
use Rattle.zy_law.specs.Said.{Moment, At, IsBacked}
use Rattle.zy_law.specs.Lawful.{IsLawful}
use Rattle.zy_law.proofs.HistoryLemmas.{same_texts, AreKept-take, AreKept-drop}
use Rattle.zy_law.proofs.ListLemmas.{passed_fronts}
use Rattle.zy_law.proofs.QuorumLemmas.{one_said}
use Rattle.zy_law.proofs.ReportLemmas.{take_split}

module _ (w : World) (lawful : IsLawful w) where
  pub proven_state : (count view : ℕ) (m : Mark) (state : Digest) (t : Moment w) → IsBacked w count (Check view m state) → w.counts.f < count → At t m
      → w.state (take m.place t.stand.history) ≡ state
  proven_state count view m state t backed enough passes =
      let one = one_said w lawful count (Check view m state) backed enough in
      let told = lawful.true_checks one.0 one.2.0 one.2.1 view m state one.1 one.2.2 one.2.3 in
      let own : Moment w = record { by = one.0; correct = one.1; number = one.2.1.when; stand = told.vote.at.stand; stood = told.vote.at.stood } in
      ap w.state (passed_fronts w lawful t own m passes told.vote.at.passes) ∙ told.snapshot

  -- a chain of kept links that has the mark, against a correct history that passes it
  module _ (t : Moment w) (s : Stretch) (m : Mark) (texts : AreKept w.kept w.next s.base.head s.entries) (has : Has w.next s m) (passes : At t m) where
    above : List Entry
    above = take (m.place - s.base.place) (drop s.base.place t.stand.history)

    same_chain : (fold w.next empty_head (take s.base.place t.stand.history) ≡ s.base.head) × (above ≡ take (m.place - s.base.place) s.entries)
    unfolding above
    same_chain =
        let order = has.above in
        let long : length (take (m.place - s.base.place) (drop s.base.place t.stand.history)) ≡ length (take (m.place - s.base.place) s.entries) =
        length-take-le (m.place - s.base.place) (drop s.base.place t.stand.history) (omega (arith, passes.within, length-drop s.base.place t.stand.history))
        ∙ sym (length-take-le (m.place - s.base.place) s.entries (omega (arith, has.below))) in
        let heads = fold-append w.next empty_head (take s.base.place t.stand.history) (take (m.place - s.base.place) (drop s.base.place t.stand.history)) in
        let whole = ap (λ (l : List Entry). fold w.next empty_head l) (take_split s.base.place m.place t.stand.history order) in
        same_texts w.kept w.next lawful.one_text (fold w.next empty_head (take s.base.place t.stand.history)) s.base.head
        (take (m.place - s.base.place) (drop s.base.place t.stand.history)) (take (m.place - s.base.place) s.entries) long
        (AreKept-take w.kept w.next (m.place - s.base.place) (fold w.next empty_head (take s.base.place t.stand.history)) (drop s.base.place t.stand.history)
        (AreKept-drop w.kept w.next s.base.place empty_head t.stand.history (lawful.texts t)))
        (AreKept-take w.kept w.next (m.place - s.base.place) s.base.head s.entries texts)
        (sym heads ∙ sym whole ∙ passes.head ∙ sym has.head)

    pub chain_base : At t s.base
    chain_base = record { within = omega (arith, has.above, passes.within); head = same_chain.0 }

    pub chain_entries : take (m.place - s.base.place) (drop s.base.place t.stand.history) ≡ take (m.place - s.base.place) s.entries
    unfolding above
    chain_entries = same_chain.1
