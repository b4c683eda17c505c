-- The history that a provider's report gives up to the choice is that of a correct replica, and what is installed or run
-- along the report stands for it.
use Rattle.std.proofs.Common.{◌≡◌, ℕ, ◌-◌, ◌<◌, Bool, true, ◌&&◌, ◌==◌, List, ◌++◌, length, map, take, drop, fold, Some, sym, ap, ◌∙◌, subst, arith}
use Rattle.std.specs.Prelude.{option_map, slice_get}
use Rattle.std.proofs.lemmas.Bool.{and_parts, eqb-true}
use Rattle.std.proofs.lemmas.List.Quantifiers.{position-Some}
use Rattle.std.proofs.lemmas.Option.{get_or_from_slice_get, same_Some, slice_get-map}
use Rattle.zy_base.specs.Machine.{Rules}
use Rattle.zy_base.specs.declared.ids.Digest.{Digest}
use Rattle.zy_chain.specs.declared.entry.Entry.{Entry}
use Rattle.zy_chain.specs.Heads.{empty_head}
use Rattle.zy_chain.specs.Stretch.{Mark}
use Rattle.zy_choose.proofs.MarkLemmas.{has_mark-Has}
use Rattle.zy_choose.specs.Choice.{IsChoice, provider_of}
use Rattle.zy_choose.specs.Marks.{Has, has_mark, link}
use Rattle.zy_choose.specs.Reports.{PlainReport}
use Rattle.zy_evidence.specs.Reading.{read}
use Rattle.zy_evidence.specs.WellFormed.{IsWellFormedChange}
use Rattle.zy_exec.specs.Kept.{Kept, StandsFor}
use Rattle.zy_exec.specs.Replay.{along, origin}
use Rattle.zy_exec.specs.Shots.{digest_of_snapshot}
use Rattle.zy_exec.specs.Snapshot.{snapshot_of}
use Rattle.zy_law.proofs.ChoiceExtends.{all_choices_safe}
use Rattle.zy_law.proofs.ListLemmas.{list_passed}
use Rattle.zy_law.proofs.ProvenStates.{chain_base, chain_entries, proven_state}
use Rattle.zy_law.proofs.QuorumLemmas.{All_at}
use Rattle.zy_law.proofs.ReportLemmas.{take_split}
use Rattle.zy_law.specs.Lawful.{IsLawful}
use Rattle.zy_law.specs.Lists.{IsKnown}
use Rattle.zy_law.specs.Said.{At, Moment}
use Rattle.zy_law.specs.World.{World}
use Rattle.zy_parts.specs.declared.reports.Change.{Change}
use Rattle.zy_parts.specs.declared.reports.New.{New}
use Rattle.zy_parts.specs.declared.signed.Signed.{Signed}
use Rattle.zy_law_views.specs.Adopted.{AreWorldTexts, IsAdopted, Matches, StandsByBytes, with_entries}
use Rattle.zy_law_views.specs.Held.{IsHeldChange, IsProvidedBy}
use Rattle.zy_law_views.specs.Texts.{Texts, digest_of, list_in}
use Rattle.zy_law_views.proofs.KeptFronts.{front_kept, snapshot_there, stands_more}
use Rattle.zy_law_views.proofs.ProvenReports.{new_valid, report_proven}
use Rattle.zy_law_views.proofs.ReadLists.{all_runnable, list_read}

provider_has : (next : Digest → Entry → Digest) (view : ℕ) (m : Mark) (reports : List PlainReport) (provider : ℕ) (r : PlainReport) → provider_of next view m reports ≡ Some provider
    → slice_get reports provider ≡ Some r → (r.last_view ≡ view) × Has next r.stretch m
provider_has next view m reports provider r found at =
    let test : PlainReport → Bool = λ r. (r.last_view == view) && has_mark next r.stretch m in
    let (within, passes, earlier) = position-Some test reports provider r found in
    let own : test r ≡ true = ap test (sym (get_or_from_slice_get reports provider r r at)) ∙ passes in
    let both = and_parts (r.last_view == view) (has_mark next r.stretch m) own in
    (eqb-true r.last_view view both.0, has_mark-Has next r.stretch m both.1)

-- ---- whose history it is

module _ (w : World) (lawful : IsLawful w) (links : w.next ≡ link) (interval : ℕ) (n : New) (m : Mark) (c : Signed Change) (is : IsProvidedBy w interval n m c) where
  pub chosen_known : IsKnown w n.view.0 m
  chosen_known =
      let choice : IsChoice w.next w.counts.agree (map read n.changes) m = subst (λ (next : Digest → Entry → Digest). IsChoice next w.counts.agree (map read n.changes) m) (sym links) is.chosen.choice in
      (all_choices_safe w lawful n.view.0 (map read n.changes) m (new_valid w interval n is.proper) choice).known

  pub provider_held : IsHeldChange w c
  provider_held = All_at (IsHeldChange w) n.changes is.provider c is.there is.proper.held

  pub provider_formed : IsWellFormedChange w.counts interval c
  provider_formed = All_at (IsWellFormedChange w.counts interval) n.changes is.provider c is.there is.proper.well_formed

  read_there : slice_get (map read n.changes) is.provider ≡ Some (read c)
  read_there = slice_get-map read n.changes is.provider ∙ ap (option_map read) is.there

  pub provider_has_it : Has w.next (read c).stretch m
  provider_has_it =
      subst (λ (next : Digest → Entry → Digest). Has next (read c).stretch m) (sym links)
      (provider_has link is.chosen.choice.view m (map read n.changes) is.provider (read c) is.chosen.provided read_there).1

  module _ (t : Moment w) (passes : At t m) where
    pub base_passed : At t (read c).stretch.base
    base_passed = chain_base w lawful t (read c).stretch m provider_held.links provider_has_it passes

    -- the entries of the history above the report's base, up to the choice, are the report's
    pub given_entries : take (m.place - (read c).stretch.base.place) (drop (read c).stretch.base.place t.stand.history) ≡ take (m.place - (read c).stretch.base.place) (read c).stretch.entries
    given_entries = chain_entries w lawful t (read c).stretch m provider_held.links provider_has_it passes

    pub given_list : take m.place t.stand.history ≡ take (read c).stretch.base.place t.stand.history ++ take (m.place - (read c).stretch.base.place) (read c).stretch.entries
    given_list =
        take_split (read c).stretch.base.place m.place t.stand.history provider_has_it.above
        ∙ ap (λ (l : List Entry). take (read c).stretch.base.place t.stand.history ++ l) given_entries

  -- ---- what is installed

  module _ {S : Type 0} (R : Rules S) (texts : Texts) (matches : Matches R w) (world : AreWorldTexts R interval w texts) where
    pub list_adopted : (t : Moment w) (x : Mark) (k : Kept S) → At t x → StandsFor R k (take x.place t.stand.history) → IsAdopted R interval texts w x k (take x.place t.stand.history)
    list_adopted t x k passes stands =
        let list = list_passed w lawful t x passes in
        record {
          list = list;
          read =
              ap (λ (n : ℕ). list_in texts n x.head) (sym list.long)
              ∙ ap (list_in texts (length (take x.place t.stand.history)))
              (sym list.head ∙ ap (λ (next : Digest → Entry → Digest). fold next empty_head (take x.place t.stand.history)) links)
              ∙ list_read texts w world.links links (take x.place t.stand.history) list.texts;
          stands = stands;
          kept = front_kept R x.place t.stand.history interval texts (world.histories t);
        }

    module _ (bytes : List ℕ) (k : Kept S) (some : 0 < (read c).stretch.base.place) (kept : texts c.stmt.told.state ≡ Some bytes) (installed : StandsByBytes R (read c).stretch.base bytes k)
        (t : Moment w) (passes : At t m) where
      -- the stable proof's digest is that of the correct history's snapshot
      proven_digest : digest_of_snapshot (snapshot_of R (along R (origin R) (take (read c).stretch.base.place t.stand.history))) ≡ c.stmt.told.state
      proven_digest =
          let proven = report_proven w interval c provider_formed provider_held.proofs in
          sym (matches.state (take (read c).stretch.base.place t.stand.history))
          ∙ proven_state w lawful w.counts.local c.stmt.told.stable_view.0 (read c).stretch.base c.stmt.told.state t (proven.stable_later some)
          (omega (arith, w.counts.sound.local_and_change, w.counts.sound.change_in_reach)) (base_passed t passes)

      installed_bytes : snapshot_of R (along R (origin R) (take (read c).stretch.base.place t.stand.history)) ≡ bytes
      installed_bytes =
          let snapshot : List ℕ = snapshot_of R (along R (origin R) (take (read c).stretch.base.place t.stand.history)) in
          let own : texts (digest_of snapshot) ≡ Some snapshot =
          (world.histories t).snapshots (read c).stretch.base.place snapshot some
          (snapshot_there R (read c).stretch.base.place t.stand.history interval (base_passed t passes).within provider_formed.itself.stable.multiple) in
          same_Some snapshot bytes (sym own ∙ ap texts proven_digest ∙ kept)

      pub installed_front : StandsFor R k (take (read c).stretch.base.place t.stand.history)
      installed_front =
          let list = list_passed w lawful t (read c).stretch.base (base_passed t passes) in
          installed.stands (take (read c).stretch.base.place t.stand.history) (all_runnable texts w world.links w.next empty_head (take (read c).stretch.base.place t.stand.history) list.texts)
          list.long (ap (λ (next : Digest → Entry → Digest). fold next empty_head (take (read c).stretch.base.place t.stand.history)) (sym links) ∙ list.head) installed_bytes

      pub installed_list : StandsFor R (with_entries k (take (m.place - (read c).stretch.base.place) (read c).stretch.entries)) (take m.place t.stand.history)
      installed_list =
          subst (λ (l : List Entry). StandsFor R (with_entries k (take (m.place - (read c).stretch.base.place) (read c).stretch.entries)) l) (sym (given_list t passes))
          (stands_more R k (take (read c).stretch.base.place t.stand.history) (take (m.place - (read c).stretch.base.place) (read c).stretch.entries) installed_front)
