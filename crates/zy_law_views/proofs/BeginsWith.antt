-- A replica begins a view lawfully with what it takes over, with or without a later base, and with what it installed.
use Rattle.std.proofs.Common.{◌≡◌, ℕ, ◌-◌, ◌<◌, ◌≤◌, List, ◌++◌, length, take, fold, Some, refl, sym, ap, ◌∙◌, subst, arith}
use Rattle.std.proofs.lemmas.List.{take-take}
use Rattle.zy_base.specs.Machine.{Rules}
use Rattle.zy_chain.specs.Heads.{empty_head}
use Rattle.zy_chain.specs.Stretch.{Mark, Stretch}
use Rattle.zy_chain.specs.declared.entry.Entry.{Entry}
use Rattle.zy_change.specs.declared.kept.Chosen.{Chosen}
use Rattle.zy_evidence.specs.Reading.{stretch_of}
use Rattle.zy_exec.proofs.HistoryLemmas.{stands_end}
use Rattle.zy_exec.proofs.SettleLemmas.{settled_place, stands_settled}
use Rattle.zy_exec.specs.Kept.{Kept, StandsFor, last_place, settled}
use Rattle.zy_exec.specs.Replay.{Point}
use Rattle.zy_law.proofs.ListLemmas.{list_passed, one_list}
use Rattle.zy_law.specs.Lists.{IsKnown}
use Rattle.zy_law.specs.World.{World}
use Rattle.zy_parts.specs.declared.reports.Change.{Change}
use Rattle.zy_parts.specs.declared.reports.Told.{Told}
use Rattle.zy_parts.specs.declared.signed.Signed.{Signed}
use Rattle.zy_parts.specs.declared.statements.Check.{Check}
use Rattle.zy_table.specs.Adopting.{common_with, entries_between, taken_over, verdict_of}
use Rattle.zy_table.specs.State.{State}
use Rattle.zy_table.specs.declared.deeds.Verdict.TheVariants.{Take}
use Rattle.zy_vframes.specs.declared.frame.ViewCert.{ViewCert}
use Rattle.zy_law_views.proofs.AdoptedLists.{base_passed, chosen_known, given_list, installed_front, installed_list, list_adopted, provider_has_it}
use Rattle.zy_law_views.proofs.Beginning.{may_begin, tied_begun}
use Rattle.zy_law_views.proofs.Grounded.{grounded_given, grounded_own}
use Rattle.zy_law_views.proofs.RunningOn.{kept_base}
use Rattle.zy_law_views.specs.Adopted.{AreWorldTexts, IsAdopted, IsHistoryKept, Matches, StandsByBytes, with_entries}
use Rattle.zy_law_views.specs.Held.{IsProvidedBy, mark_at}
use Rattle.zy_law_views.specs.Texts.{Texts, list_in}
use Rattle.zy_law_views.specs.Tied.{IsBeginning, IsGrounded, began_with, check_in}
use Rattle.zy_law_views.proofs.Verdicts.{taken_adopted}
use Rattle.zy_law_views.specs.Adoptions.{IsBegunLawfully, IsDue}
use Rattle.zy_law_views.specs.Cores.{core_of}
use Rattle.zy_law_views.specs.Rows.{IsReady}

-- what is taken over stands on the own base
taken_base : {S : Type 0} (told : Stretch) (place : ℕ) (k : Kept S) → (taken_over told place k).base ≡ k.base
unfolding taken_over
taken_base told place k = refl

module _ {S : Type 0} (R : Rules S) (interval : ℕ) (w : World) (r : ℕ) (s : State S) (history : List Entry) (ready : IsReady R interval w r s history) (matches : Matches R w)
    (texts : Texts) (world : AreWorldTexts R interval w texts) (cert : ViewCert) (chosen : Chosen) (p : Signed Change) (due : IsDue interval w s cert chosen p) where
  abbrev m : Mark
  m = mark_at chosen.place chosen.head

  abbrev told : Told
  told = p.stmt.told

  given : IsProvidedBy w interval cert.new.stmt m p
  given = record { proper = due.new.proper; provider = chosen.provider; chosen = due.new.choice; there = due.there }

  known : IsKnown w cert.new.stmt.view.0 m
  known = chosen_known w ready.lawful ready.links interval cert.new.stmt m p given

  pub told_low : told.stable_place.0 ≤ chosen.place.0
  told_low = let has = provider_has_it w ready.lawful ready.links interval cert.new.stmt m p given in omega (arith, has.above)

  begin_with : (k : Kept S) (list : List Entry) → IsAdopted R interval texts w m k list → IsBeginning R interval w (core_of s) cert chosen k list
  begin_with k list is = record { own = due.own; later = due.later; new = due.new; begans = due.begans; list = is.list; stands = is.stands }

  begun : (k : Kept S) (list : List Entry) (stable : Check) (proof : List (Signed Check)) → IsAdopted R interval texts w m k list → IsGrounded interval w (began_with cert chosen k stable proof (core_of s))
      → IsBegunLawfully R interval w r s cert chosen k stable proof list
  begun k list stable proof is grounded =
      record {
        may = may_begin R interval w ready.lawful r ready.correct (core_of s) history ready.tied cert chosen k list (begin_with k list is);
        tied = tied_begun R interval w ready.lawful r ready.correct (core_of s) history ready.tied cert chosen k list (begin_with k list is) stable proof grounded;
      }

  -- where what is kept begins at the report's stable place, its base has that head
  head_there : (k : Kept S) (list : List Entry) → IsAdopted R interval texts w m k list → k.base.place ≡ told.stable_place.0 → k.base.head ≡ told.stable_head
  head_there k list is place =
      let t = known.moment in
      let whole : list ≡ take chosen.place.0 t.stand.history = one_list w ready.lawful m list (take chosen.place.0 t.stand.history) is.list (list_passed w ready.lawful t m known.passes) in
      let base = base_passed w ready.lawful ready.links interval cert.new.stmt m p given t known.passes in
      let own = kept_base R w ready.links k list is.stands in
      sym own.head
      ∙ ap (λ (n : ℕ). fold w.next empty_head (take n list)) place
      ∙ ap (λ (l : List Entry). fold w.next empty_head (take told.stable_place.0 l)) whole
      ∙ ap (λ (l : List Entry). fold w.next empty_head l) (take-take told.stable_place.0 chosen.place.0 t.stand.history told_low)
      ∙ base.head

  module _ (taken : verdict_of R s.kept s.board.stable told chosen.place chosen.head ≡ Take) where
    abbrev common : ℕ
    common = common_with (stretch_of told) chosen.place.0 s.kept

    -- what it has then: its own history up to the common place, and the report's entries above that
    abbrev pub list_over : List Entry
    list_over = take common history ++ entries_between (stretch_of told) common chosen.place.0

    pub over : IsAdopted R interval texts w m (taken_over (stretch_of told) chosen.place.0 s.kept) list_over
    over = taken_adopted R interval w ready.lawful matches r ready.correct (core_of s) history ready.tied cert.new.stmt chosen.place chosen.head p given due.later texts world taken

    pub begins_on_own : told.stable_place.0 ≤ s.board.stable.place.0 → IsBegunLawfully R interval w r s cert chosen (taken_over (stretch_of told) chosen.place.0 s.kept) s.board.stable s.board.proof list_over
    begins_on_own below =
        let k : Kept S = taken_over (stretch_of told) chosen.place.0 s.kept in
        let base = taken_base (stretch_of told) chosen.place.0 s.kept in
        let place : k.base.place ≡ s.kept.base.place = ap (λ (x : Point S). x.place) base in
        let head : k.base.head ≡ s.kept.base.head = ap (λ (x : Point S). x.head) base in
        let stable = ready.tied.grounded.place in
        begun k list_over s.board.stable s.board.proof over
        (grounded_own R interval w ready.lawful ready.links texts world.links (core_of s) cert chosen k list_over (begin_with k list_over over) p given ready.tied.grounded place head (omega (arith, place, stable)))

    pub begins_on_told : s.board.stable.place.0 < told.stable_place.0
        → IsBegunLawfully R interval w r s cert chosen (settled R told.stable_place.0 (taken_over (stretch_of told) chosen.place.0 s.kept)) (check_in told) told.checks list_over
    begins_on_told past =
        let k : Kept S = taken_over (stretch_of told) chosen.place.0 s.kept in
        let base = taken_base (stretch_of told) chosen.place.0 s.kept in
        let stable = ready.tied.grounded.place in
        let above : k.base.place ≤ told.stable_place.0 = omega (arith, ap (λ (x : Point S). x.place) base, stable) in
        let ends : last_place k ≡ chosen.place.0 = stands_end R k list_over over.stands ∙ over.list.long in
        let below : told.stable_place.0 ≤ last_place k = omega (arith, told_low, ends) in
        let later : Kept S = settled R told.stable_place.0 k in
        let is : IsAdopted R interval texts w m later list_over =
        record { list = over.list; read = over.read; stands = stands_settled R k list_over told.stable_place.0 above below over.stands; kept = over.kept } in
        let place : later.base.place ≡ told.stable_place.0 = settled_place R k told.stable_place.0 above below in
        begun later list_over (check_in told) told.checks is
        (grounded_given R interval w ready.lawful ready.links texts world.links (core_of s) cert chosen later list_over (begin_with later list_over is) p given (omega arith) place (head_there later list_over is place))

  module _ (bytes : List ℕ) (k : Kept S) (some : 0 < told.stable_place.0) (kept : texts told.state ≡ Some bytes) (installed : StandsByBytes R (stretch_of told).base bytes k) where
    -- the list of the report's stable place, which is read out of the kept texts, and the report's entries above that
    pub record IsBegunOnInstalled : Type 0 where
      pub base : List Entry
      pub long : length base ≡ told.stable_place.0
      pub read : list_in texts told.stable_place.0 told.stable_head ≡ Some base
      pub begun : IsBegunLawfully R interval w r s cert chosen (with_entries k (take (chosen.place.0 - told.stable_place.0) told.entries)) (check_in told) told.checks
          (base ++ take (chosen.place.0 - told.stable_place.0) told.entries)
      pub kept_too : IsHistoryKept R interval texts (base ++ take (chosen.place.0 - told.stable_place.0) told.entries)

    pub begins_installed : IsBegunOnInstalled
    begins_installed =
        let more : Kept S = with_entries k (take (chosen.place.0 - told.stable_place.0) told.entries) in
        let t = known.moment in
        let list : List Entry = take chosen.place.0 t.stand.history in
        let base : List Entry = take told.stable_place.0 t.stand.history in
        let passed = base_passed w ready.lawful ready.links interval cert.new.stmt m p given t known.passes in
        let of_base = list_passed w ready.lawful t (stretch_of told).base passed in
        let stands : StandsFor R more list =
        installed_list w ready.lawful ready.links interval cert.new.stmt m p given R texts matches world bytes k some kept installed t known.passes in
        let is : IsAdopted R interval texts w m more list =
        list_adopted w ready.lawful ready.links interval cert.new.stmt m p given R texts matches world t m more known.passes stands in
        let base_stands = installed_front w ready.lawful ready.links interval cert.new.stmt m p given R texts matches world bytes k some kept installed t known.passes in
        let base_is = list_adopted w ready.lawful ready.links interval cert.new.stmt m p given R texts matches world t (stretch_of told).base k passed base_stands in
        let whole = given_list w ready.lawful ready.links interval cert.new.stmt m p given t known.passes in
        record {
          base = base;
          long = of_base.long;
          read = base_is.read;
          begun =
              subst (λ (l : List Entry). IsBegunLawfully R interval w r s cert chosen more (check_in told) told.checks l)
              whole
              (begun more list (check_in told) told.checks is
              (grounded_given R interval w ready.lawful ready.links texts world.links (core_of s) cert chosen more list (begin_with more list is) p given some installed.place (head_there more list is installed.place)));
          kept_too = subst (λ (l : List Entry). IsHistoryKept R interval texts l) whole is.kept;
        }
