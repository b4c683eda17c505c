-- The verdict on a choice, where a tied replica judges it by the provider's report.
use Rattle.std.proofs.Common.{◌≡◌, ℕ, ◌%◌, ◌<◌, ◌≤◌, nat_eq, nat_le, nat_lt, Bool, true, false, cond, if◌then◌else◌, List, ◌++◌, length, take, Option, Some, None, refl, sym, ap, ◌∙◌, subst, arith}
use Rattle.std.specs.Prelude.{option_map}
use Rattle.std.proofs.lemmas.Bool.{leb-false, leb-true, le-ltb}
use Rattle.std.proofs.lemmas.Option.{same_Some}
use Rattle.zy_base.specs.Machine.{Rules}
use Rattle.zy_base.specs.declared.cause.Cause.{Cause}
use Rattle.zy_base.specs.declared.cause.Cause.TheVariants as causes
use Rattle.zy_base.specs.declared.ids.Digest.{Digest}
use Rattle.zy_base.specs.declared.ids.Place.{Place}
use Rattle.zy_cert.specs.Equal.{digest-equal, same_digest}
use Rattle.zy_chain.specs.Stretch.{Mark, head_in}
use Rattle.zy_chain.specs.declared.entry.Entry.{Entry}
use Rattle.zy_evidence.specs.Reading.{stretch_of}
use Rattle.zy_exec.proofs.SettleLemmas.{stands_snapshot}
use Rattle.zy_exec.specs.Kept as kept
use Rattle.zy_exec.specs.Replay.{Point, along, origin}
use Rattle.zy_exec.specs.Shots.{digest_of_snapshot, snapshot_at, snapshot_in}
use Rattle.zy_exec.specs.Snapshot.{snapshot_of}
use Rattle.zy_law.specs.Lawful.{IsLawful}
use Rattle.zy_law.specs.Said.{IsCorrect, Moment}
use Rattle.zy_law.specs.World.{World}
use Rattle.zy_parts.specs.declared.reports.Change.{Change}
use Rattle.zy_parts.specs.declared.reports.New.{New}
use Rattle.zy_parts.specs.declared.reports.Told.{Told}
use Rattle.zy_parts.specs.declared.signed.Signed.{Signed}
use Rattle.zy_table.specs.Adopting.{common_up_to, entries_between, taken_over, verdict_above, verdict_beside, verdict_of, verdict_on_state}
use Rattle.zy_table.specs.Gathering.{state_in}
use Rattle.zy_table.specs.declared.deeds.Verdict.TheVariants.{Refuse, Take, Wait}
use Rattle.zy_law_views.proofs.AdoptedLists.{chosen_known, provider_has_it}
use Rattle.zy_law_views.proofs.NoBlame.{not_below, provider_has_stable, provider_state}
use Rattle.zy_law_views.proofs.RunningOn.{adopted_by_running, has_at, kept_passes, ran_list}
use Rattle.zy_law_views.specs.Adopted.{AreWorldTexts, HaveBoth, IsAdopted, Matches, run_on}
use Rattle.zy_law_views.specs.Held.{IsProvidedBy, mark_at}
use Rattle.zy_law_views.specs.Texts.{Texts}
use Rattle.zy_law_views.specs.Tied.{Core, IsTied}
use Rattle.zy_law_views.proofs.CommonPlaces.{common_below, common_shared, head_at_base, same_itself}

-- the snapshot at a place of a history is where its first entries lead
snapshot_told : {S : Type 0} (R : Rules S) (interval : ℕ) (history : List Entry) (place : ℕ) (snapshot : List ℕ) → snapshot_at R interval history place ≡ Some snapshot
    → snapshot_of R (along R (origin R) (take place history)) ≡ snapshot
snapshot_told {S} R interval history place snapshot = by (nat_lt (length history) place) (nat_eq (there.place % interval) 0)
  where
    there : Point S
    there = along R (origin R) (take place history)

    by : (past due : Bool) → cond past None (cond due (Some (snapshot_of R there)) None) ≡ Some snapshot → snapshot_of R there ≡ snapshot
    by true due is = absurd cc
    by false true is = same_Some _ snapshot is
    by false false is = absurd cc

mapped : {A B : Type 0} (f : A → B) (o : Option A) (y : B) → option_map f o ≡ Some y → (x : A) × (o ≡ Some x) × (f x ≡ y)
mapped f None y is = absurd cc
mapped f (Some x) y is = (x, refl, same_Some (f x) y is)

module _ {S : Type 0} (R : Rules S) (interval : ℕ) (w : World) (lawful : IsLawful w) (matches : Matches R w) (r : ℕ) (correct : IsCorrect w r) (c : Core S) (history : List Entry)
    (tied : IsTied R interval w r c history) (n : New) (place : Place) (head : Digest) (p : Signed Change) (is : IsProvidedBy w interval n (mark_at place head) p)
    (later : c.views.last_view.0 < n.view.0) where
  abbrev m : Mark
  m = mark_at place head

  abbrev told : Told
  told = p.stmt.told

  abbrev here : Moment w
  here = record { by = r; correct = correct; number = tied.standing.number; stand = record { view = c.views.last_view.0; history = history }; stood = tied.standing.stood }

  above_stable : c.stable.place.0 ≤ place.0
  above_stable = not_below R interval w lawful matches.next r c history tied n m p is later

  -- its own snapshot at the report's stable place
  own_state : (own : Digest) → c.stable.place.0 < told.stable_place.0 → head_in (kept.stretch_of c.kept) told.stable_place.0 ≡ Some told.stable_head
      → state_in R c.kept told.stable_place.0 ≡ Some own → own ≡ told.state
  own_state own past there is_own =
      let (snapshot, kept_one, digest) = mapped digest_of_snapshot (snapshot_in R c.kept told.stable_place.0) own is_own in
      let has = has_at (kept.stretch_of c.kept) told.stable_place.0 told.stable_head there in
      let passes = kept_passes R w matches.next c.kept history tied.standing.stands told.stable_place.0 told.stable_head there in
      let at : snapshot_at R c.kept.interval history told.stable_place.0 ≡ Some snapshot =
      sym (stands_snapshot R c.kept history told.stable_place.0 tied.standing.stands has.above) ∙ kept_one in
      let led : snapshot_of R (along R (origin R) (take told.stable_place.0 history)) ≡ snapshot = snapshot_told R c.kept.interval history told.stable_place.0 snapshot at in
      sym digest
      ∙ ap digest_of_snapshot (sym led)
      ∙ sym (matches.state (take told.stable_place.0 history))
      ∙ provider_state w lawful interval n m p is (omega arith) here passes

  -- ---- the cases of a verdict

  beside : told.stable_place.0 ≤ c.stable.place.0 → verdict_beside c.stable.head (head_in (stretch_of told) c.stable.place.0) ≡ Take
  beside below =
      ap (verdict_beside c.stable.head) (provider_has_stable R interval w lawful matches.next r c history tied n m p is later below)
      ∙ ap (λ (b : Bool). if b then Take else Refuse (causes.BelowStable c.stable.head c.stable.head)) (same_itself c.stable.head)

  on_state : (cause : Cause) (o : Option Digest) → state_in R c.kept told.stable_place.0 ≡ o → c.stable.place.0 < told.stable_place.0 → head_in (kept.stretch_of c.kept) told.stable_place.0 ≡ Some told.stable_head
      → verdict_on_state told.state o ≡ Refuse cause → ⊥
  on_state cause None own past there refused = cc
  on_state cause (Some own) state past there refused =
      let same : own ≡ told.state = own_state own past there state in
      let equal : same_digest own told.state ≡ true = (digest-equal own told.state).1 same in
      let taken : verdict_on_state told.state (Some own) ≡ Take = ap (λ (b : Bool). if b then Take else Refuse (causes.WrongState own told.state)) equal in
      let clash : Take ≡ Refuse cause = sym taken ∙ refused in
      absurd cc

  above : (cause : Cause) (o : Option Digest) → head_in (kept.stretch_of c.kept) told.stable_place.0 ≡ o → c.stable.place.0 < told.stable_place.0 → verdict_above R c.kept told o ≡ Refuse cause → ⊥
  above cause None own past refused = cc
  above cause (Some own) there past refused = by (same_digest own told.stable_head) refl refused
    where
      by : (b : Bool) → same_digest own told.stable_head ≡ b → cond b (verdict_on_state told.state (state_in R c.kept told.stable_place.0)) Wait ≡ Refuse cause → ⊥
      by true same refused =
          let head_is : own ≡ told.stable_head = (digest-equal own told.stable_head).0 same in
          on_state cause (state_in R c.kept told.stable_place.0) refl past (there ∙ ap (λ (d : Digest). Some d) head_is) refused
      by false other refused = cc

  pub not_refused : (cause : Cause) → verdict_of R c.kept c.stable told place head ≡ Refuse cause → ⊥
  unfolding verdict_of
  not_refused cause = by_place (nat_lt place.0 c.stable.place.0) (nat_le told.stable_place.0 c.stable.place.0) (le-ltb place.0 c.stable.place.0 above_stable) refl
    where
      by_place : (low below : Bool) → low ≡ false → nat_le told.stable_place.0 c.stable.place.0 ≡ below
          → cond low (Refuse (causes.BelowStable c.stable.head head))
          (cond below (verdict_beside c.stable.head (head_in (stretch_of told) c.stable.place.0)) (verdict_above R c.kept told (head_in (kept.stretch_of c.kept) told.stable_place.0))) ≡ Refuse cause → ⊥
      by_place true below low is_below refused = absurd cc
      by_place false true low is_below refused =
          let taken = beside (leb-true _ _ is_below) in
          let clash : Take ≡ Refuse cause = sym taken ∙ refused in
          absurd cc
      by_place false false low is_above refused = let past = leb-false _ _ is_above in above cause (head_in (kept.stretch_of c.kept) told.stable_place.0) refl (omega arith) refused

  -- ---- what is taken over

  shared_above : (o : Option Digest) → head_in (kept.stretch_of c.kept) told.stable_place.0 ≡ o → verdict_above R c.kept told o ≡ Take → HaveBoth (stretch_of told) (kept.stretch_of c.kept) told.stable_place.0 told.stable_head
  shared_above None own taken = absurd cc
  shared_above (Some own) there taken = by (same_digest own told.stable_head) refl taken
    where
      by : (b : Bool) → same_digest own told.stable_head ≡ b → cond b (verdict_on_state told.state (state_in R c.kept told.stable_place.0)) Wait ≡ Take
          → HaveBoth (stretch_of told) (kept.stretch_of c.kept) told.stable_place.0 told.stable_head
      by true same taken = record { first = head_at_base (stretch_of told); second = there ∙ ap (λ (d : Digest). Some d) ((digest-equal own told.stable_head).0 same) }
      by false other taken = absurd cc

  shared_beside : told.stable_place.0 ≤ c.stable.place.0 → HaveBoth (stretch_of told) (kept.stretch_of c.kept) c.stable.place.0 c.stable.head
  shared_beside below =
      record {
        first = provider_has_stable R interval w lawful matches.next r c history tied n m p is later below;
        second = ap (head_in (kept.stretch_of c.kept)) (sym tied.grounded.place) ∙ head_at_base (kept.stretch_of c.kept) ∙ ap (λ (d : Digest). Some d) tied.grounded.head;
      }

  record IsSharedBelow : Type 0 where
    at : ℕ
    there : Digest
    both : HaveBoth (stretch_of told) (kept.stretch_of c.kept) at there
    low : at ≤ place.0

  told_low : told.stable_place.0 ≤ place.0
  told_low = let has = provider_has_it w lawful matches.next interval n m p is in omega (arith, has.above)

  shared_there : verdict_of R c.kept c.stable told place head ≡ Take → IsSharedBelow
  unfolding verdict_of
  shared_there = by_place (nat_lt place.0 c.stable.place.0) (nat_le told.stable_place.0 c.stable.place.0) refl
    where
      by_place : (low below : Bool) → nat_le told.stable_place.0 c.stable.place.0 ≡ below
          → cond low (Refuse (causes.BelowStable c.stable.head head))
          (cond below (verdict_beside c.stable.head (head_in (stretch_of told) c.stable.place.0)) (verdict_above R c.kept told (head_in (kept.stretch_of c.kept) told.stable_place.0))) ≡ Take → IsSharedBelow
      by_place true below is_below taken = absurd cc
      by_place false true is_below taken = record { at = c.stable.place.0; there = c.stable.head; both = shared_beside (leb-true _ _ is_below); low = above_stable }
      by_place false false is_above taken =
          record { at = told.stable_place.0; there = told.stable_head; both = shared_above (head_in (kept.stretch_of c.kept) told.stable_place.0) refl taken; low = told_low }

  abbrev common : ℕ
  common = common_up_to place.0 (stretch_of told) (kept.stretch_of c.kept)

  -- the own history up to the common place, and the report's entries above that
  pub taken_adopted : (texts : Texts) → AreWorldTexts R interval w texts → verdict_of R c.kept c.stable told place head ≡ Take
      → IsAdopted R interval texts w m (taken_over (stretch_of told) place.0 c.kept) (take common history ++ entries_between (stretch_of told) common place.0)
  unfolding taken_over
  taken_adopted texts world taken =
      let shared = shared_there taken in
      let both = common_shared place.0 shared.at (stretch_of told) (kept.stretch_of c.kept) shared.there shared.low shared.both in
      let low = common_below place.0 (stretch_of told) (kept.stretch_of c.kept) in
      let known = chosen_known w lawful matches.next interval n m p is in
      subst (λ (l : List Entry). IsAdopted R interval texts w m (run_on (stretch_of told) common place.0 c.kept) l)
      (sym (ran_list w lawful matches.next interval n m p is R texts matches world here c.kept tied.standing.stands common both.0 both.1 low known.moment known.passes))
      (adopted_by_running w lawful matches.next interval n m p is R texts matches world here c.kept tied.standing.stands common both.0 both.1 low known.moment known.passes)
