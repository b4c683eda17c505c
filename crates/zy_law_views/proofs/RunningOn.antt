-- A replica that goes back to a place which it shares with the provider's report, and runs on along the report, stands for the
-- choice's list.
use Rattle.std.proofs.Common.{◌≡◌, ℕ, ◌+◌, ◌-◌, ◌*◌, ◌^◌, ◌<◌, ◌≤◌, nat_lt, Bool, true, false, cond, ◌||◌, List, ◌++◌, length, take, drop, fold, Some, None, refl, sym, ap, ◌∙◌, subst, arith}
use Rattle.std.specs.List.{slice_range}
use Rattle.std.specs.Prelude.{All}
use Rattle.std.proofs.lemmas.Bool.{ltb-false}
use Rattle.std.proofs.lemmas.List.{drop-drop, drop-take, take-take}
use Rattle.std.proofs.lemmas.List.Sums.{fold-append}
use Rattle.std.proofs.lemmas.Option.{same_Some}
use Rattle.zy_base.specs.Machine.{Rules}
use Rattle.zy_base.specs.declared.ids.Digest.{Digest}
use Rattle.zy_chain.specs.Heads.{empty_head, head_from}
use Rattle.zy_chain.specs.Stretch.{Mark, Stretch, end_of, head_in}
use Rattle.zy_chain.specs.declared.entry.Entry.{Entry}
use Rattle.zy_choose.specs.Marks.{Has, link}
use Rattle.zy_evidence.specs.Reading.{read, stretch_of}
use Rattle.zy_exec.proofs.HistoryLemmas.{stands_back, stands_end}
use Rattle.zy_exec.proofs.ReplayLemmas.{head-along}
use Rattle.zy_exec.specs.Kept as kept
use Rattle.zy_exec.specs.Kept.{Kept, StandsFor, back_to, last_place}
use Rattle.zy_exec.specs.Replay.{Point, origin}
use Rattle.zy_law.proofs.HistoryLemmas.{AreKept-drop}
use Rattle.zy_law.proofs.ListLemmas.{passed_fronts}
use Rattle.zy_law.proofs.ReportLemmas.{passes_has, take_split}
use Rattle.zy_law.specs.Histories.{Passes}
use Rattle.zy_law.specs.Lawful.{IsLawful}
use Rattle.zy_law.specs.Lists.{IsListOf}
use Rattle.zy_law.specs.Said.{At, Moment}
use Rattle.zy_law.specs.World.{World}
use Rattle.zy_parts.specs.declared.reports.Change.{Change}
use Rattle.zy_parts.specs.declared.reports.New.{New}
use Rattle.zy_parts.specs.declared.signed.Signed.{Signed}
use Rattle.zy_law_views.specs.Adopted.{AreWorldTexts, HaveBoth, IsAdopted, Matches, run_on}
use Rattle.zy_law_views.specs.Held.{IsProvidedBy}
use Rattle.zy_law_views.specs.Texts.{AreLinks, Texts}
use Rattle.zy_law_views.proofs.AdoptedLists.{base_passed, given_entries, list_adopted, provider_formed, provider_has_it}
use Rattle.zy_law_views.proofs.KeptFronts.{stands_more}
use Rattle.zy_law_views.proofs.ReadLists.{all_runnable}
use Rattle.zy_chain.specs.Entries.{IsOfClients}

-- a head that a stretch has at a place
pub has_at : (s : Stretch) (place : ℕ) (head : Digest) → head_in s place ≡ Some head → Has link s (record { place = place; head = head })
has_at s place head = by (nat_lt place s.base.place) (nat_lt (end_of s) place) refl refl
  where
    by : (low high : Bool) → nat_lt place s.base.place ≡ low → nat_lt (end_of s) place ≡ high → cond (low || high) None (Some (head_from s.base.head (take (place - s.base.place) s.entries))) ≡ Some head
        → Has link s (record { place = place; head = head })
    by true high below above is = absurd cc
    by false true below above is = absurd cc
    by false false below above is = record { above = ltb-false _ _ below; below = ltb-false _ _ above; head = same_Some _ head is }

-- what is kept begins at a mark of the history for which it stands
pub kept_base : {S : Type 0} (R : Rules S) (w : World) → w.next ≡ link → (k : Kept S) (history : List Entry) → StandsFor R k history → Passes w.next history (kept.stretch_of k).base
kept_base R w links k history stands =
    record {
      within = stands.within;
      head =
          ap (λ (next : Digest → Entry → Digest). fold next empty_head (take k.base.place history)) links
          ∙ sym (ap (λ (p : Point _). p.head) stands.base_is ∙ head-along R (origin R) (take k.base.place history));
    }

pub kept_passes : {S : Type 0} (R : Rules S) (w : World) → w.next ≡ link → (k : Kept S) (history : List Entry) → StandsFor R k history → (place : ℕ) (head : Digest)
    → head_in (kept.stretch_of k) place ≡ Some head → Passes w.next history (record { place = place; head = head })
kept_passes R w links k history stands place head is =
    passes_has w.next history (kept.stretch_of k) (kept_base R w links k history stands) stands.others (record { place = place; head = head })
    (subst (λ (next : Digest → Entry → Digest). Has next (kept.stretch_of k) (record { place = place; head = head })) (sym links) (has_at (kept.stretch_of k) place head is))

module _ (w : World) (lawful : IsLawful w) (links : w.next ≡ link) (interval : ℕ) (n : New) (m : Mark) (c : Signed Change) (is : IsProvidedBy w interval n m c) where
  module _ (t : Moment w) (passes : At t m) where
    -- the report's marks up to the choice are the history's
    pub told_passes : (x : Mark) → Has w.next (read c).stretch x → x.place ≤ m.place → At t x
    told_passes x has low =
        let s = (read c).stretch in
        let base = base_passed w lawful links interval n m c is t passes in
        let above = has.above in
        let rest : take (x.place - s.base.place) (drop s.base.place t.stand.history) ≡ take (x.place - s.base.place) s.entries =
        sym (take-take (x.place - s.base.place) (m.place - s.base.place) (drop s.base.place t.stand.history) (omega arith))
        ∙ ap (take (x.place - s.base.place)) (given_entries w lawful links interval n m c is t passes)
        ∙ take-take (x.place - s.base.place) (m.place - s.base.place) s.entries (omega arith) in
        record {
          within = omega (arith, passes.within);
          head =
              ap (λ (l : List Entry). fold w.next empty_head l) (take_split s.base.place x.place t.stand.history above)
              ∙ fold-append w.next empty_head (take s.base.place t.stand.history) (take (x.place - s.base.place) (drop s.base.place t.stand.history))
              ∙ ap (λ (h : Digest). fold w.next h (take (x.place - s.base.place) (drop s.base.place t.stand.history))) base.head
              ∙ ap (λ (l : List Entry). fold w.next s.base.head l) rest
              ∙ has.head;
        }

    -- between two places the history has the report's entries
    told_between : (low : ℕ) → (read c).stretch.base.place ≤ low → low ≤ m.place
        → take (m.place - low) (drop low t.stand.history) ≡ slice_range c.stmt.told.entries (low - c.stmt.told.stable_place.0) (m.place - c.stmt.told.stable_place.0)
    told_between low above below =
        let b = (read c).stretch.base.place in
        let count : (m.place - b) - (low - b) ≡ m.place - low = omega arith in
        let sum : (low - b) + (m.place - low) ≡ m.place - b = omega arith in
        let at : b + (low - b) ≡ low = omega arith in
        let same : drop (low - b) (take (m.place - b) (drop b t.stand.history)) ≡ drop (low - b) (take (m.place - b) (read c).stretch.entries) =
        ap (drop (low - b)) (given_entries w lawful links interval n m c is t passes) in
        let left : drop (low - b) (take (m.place - b) (drop b t.stand.history)) ≡ take (m.place - low) (drop low t.stand.history) =
        ap (λ (k : ℕ). drop (low - b) (take k (drop b t.stand.history))) (sym sum)
        ∙ drop-take (low - b) (m.place - low) (drop b t.stand.history)
        ∙ ap (take (m.place - low)) (drop-drop (low - b) b t.stand.history ∙ ap (λ (k : ℕ). drop k t.stand.history) at) in
        let right : drop (low - b) (take (m.place - b) (read c).stretch.entries) ≡ take (m.place - low) (drop (low - b) (read c).stretch.entries) =
        ap (λ (k : ℕ). drop (low - b) (take k (read c).stretch.entries)) (sym sum) ∙ drop-take (low - b) (m.place - low) (read c).stretch.entries in
        sym left ∙ same ∙ right ∙ ap (λ (k : ℕ). take k (drop (low - b) (read c).stretch.entries)) (sym count)

  module _ {S : Type 0} (R : Rules S) (texts : Texts) (matches : Matches R w) (world : AreWorldTexts R interval w texts) (own : Moment w) (k : Kept S) (stands : StandsFor R k own.stand.history)
      (place : ℕ) (head : Digest) (both : HaveBoth (stretch_of c.stmt.told) (kept.stretch_of k) place head) (low : place ≤ m.place) (t : Moment w) (passes : At t m) where
    abbrev shared : Mark
    shared = record { place = place; head = head }

    told_has : Has w.next (read c).stretch shared
    told_has = subst (λ (next : Digest → Entry → Digest). Has next (read c).stretch shared) (sym links) (has_at (read c).stretch place head both.first)

    abbrev given : List Entry
    given = slice_range c.stmt.told.entries (place - c.stmt.told.stable_place.0) (m.place - c.stmt.told.stable_place.0)

    same_front : take place own.stand.history ≡ take place t.stand.history
    same_front = passed_fronts w lawful own t shared (kept_passes R w links k own.stand.history stands place head both.second) (told_passes t passes shared told_has low)

    -- the own history up to there, and on along the report: the choice's list
    pub ran_list : take place own.stand.history ++ given ≡ take m.place t.stand.history
    ran_list =
        ap (λ (l : List Entry). l ++ given) same_front
        ∙ ap (λ (l : List Entry). take place t.stand.history ++ l) (sym (told_between t passes place told_has.above low))
        ∙ sym (take_split place m.place t.stand.history low)

    ran_on : StandsFor R (run_on (stretch_of c.stmt.told) place m.place k) (take m.place t.stand.history)
    ran_on =
        let own_has = has_at (kept.stretch_of k) place head both.second in
        let back : StandsFor R (back_to place k) (take place own.stand.history) = stands_back R k own.stand.history place own_has.above own_has.below stands in
        subst (λ (l : List Entry). StandsFor R (run_on (stretch_of c.stmt.told) place m.place k) l) ran_list (stands_more R (back_to place k) (take place own.stand.history) given back)

    pub adopted_by_running : IsAdopted R interval texts w m (run_on (stretch_of c.stmt.told) place m.place k) (take m.place t.stand.history)
    adopted_by_running = list_adopted w lawful links interval n m c is R texts matches world t m (run_on (stretch_of c.stmt.told) place m.place k) passes ran_on

  -- ---- room for the next report

  module _ {S : Type 0} (R : Rules S) (texts : Texts) (known : AreLinks w texts) (k : Kept S) (list : List Entry) (of : IsListOf w m list) (stands : StandsFor R k list) (above : c.stmt.told.stable_place.0 ≤ k.base.place) where
    choice_near : m.place ≤ (read c).stretch.base.place + length (read c).stretch.entries
    choice_near = (provider_has_it w lawful links interval n m c is).below

    ends_at : last_place k ≡ m.place
    ends_at = stands_end R k list stands ∙ of.long

    pub few_entries : length k.entries ≤ 2 * interval
    few_entries = omega (arith, (provider_formed w lawful links interval n m c is).itself.entries.few, choice_near, ends_at)

    pub end_in_range : last_place k < 2 ^ 62
    end_in_range = omega (arith, (provider_formed w lawful links interval n m c is).itself.entries.end, choice_near, ends_at)

    pub entries_of_clients : All IsOfClients k.entries
    entries_of_clients =
        let kept_links = AreKept-drop w.kept w.next k.base.place empty_head list of.texts in
        subst (λ (l : List Entry). All IsOfClients l) (sym stands.others)
        (λ i d within. (all_runnable texts w known w.next (fold w.next empty_head (take k.base.place list)) (drop k.base.place list) kept_links i d within).client)
