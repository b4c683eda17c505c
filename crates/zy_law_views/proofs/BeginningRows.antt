-- The rows of a new view, of another's confirmation, of a view certificate, and of another's wish for the stable snapshot.
use Rattle.std.proofs.Common.{◌≡◌, inl, inr, ℕ, ◌-◌, ◌<◌, ◌≤◌, nat_eq, nat_lt, ◌||◌, not, Bool, true, false, cond, List, length, Option, Some, None, Result, Ok, Err, refl, sym, ap, ◌∙◌, subst, arith, eq-eqb}
use Rattle.std.specs.Prelude.{All}
use Rattle.std.proofs.lemmas.Bool.{ltb-false, ltb-true, or_parts}
use Rattle.zy_base.specs.Machine.{Rules}
use Rattle.zy_base.specs.Step.{view_of}
use Rattle.zy_base.specs.declared.cause.Cause.{Cause}
use Rattle.zy_base.specs.declared.cause.Cause.TheVariants as causes
use Rattle.zy_base.specs.declared.ids.Digest.{Digest}
use Rattle.zy_base.specs.declared.ids.Party.TheVariants.{Replica}
use Rattle.zy_base.specs.declared.ids.Place.{Place}
use Rattle.zy_base.specs.declared.ids.View.{View}
use Rattle.zy_base.specs.declared.step.Answer.TheVariants.{Taken}
use Rattle.zy_base.specs.declared.step.Mode.{Mode}
use Rattle.zy_base.specs.declared.step.Mode.TheVariants.{Active, Leaving}
use Rattle.zy_cert.specs.Certificates.{certified}
use Rattle.zy_cert.specs.Equal.{same_began, same_digest}
use Rattle.zy_cert.specs.Points.{point_of_began}
use Rattle.zy_chain.specs.declared.entry.Entry.{Entry}
use Rattle.zy_change.proofs.FitLemmas.{kept_or_filled}
use Rattle.zy_change.specs.Views.{began_for, has_begun, is_accepted, leads, own_view, slot_of, with_began}
use Rattle.zy_change.specs.declared.kept.Accepted.{Accepted}
use Rattle.zy_change.specs.declared.kept.Chosen.{Chosen}
use Rattle.zy_check.specs.States.{fetch_cause}
use Rattle.zy_change.specs.Confirming.{accepted_for, is_began_from, is_over}
use Rattle.zy_change.specs.Judging.{chosen_in}
use Rattle.zy_evidence.specs.Reading.{number_of_party}
use Rattle.zy_evidence.specs.Rules.{is_certified_at}
use Rattle.zy_law.specs.World.{World}
use Rattle.zy_parts.specs.declared.reports.Began.{Began}
use Rattle.zy_parts.specs.declared.reports.Fetch.{Fetch}
use Rattle.zy_parts.specs.declared.reports.New.{New}
use Rattle.zy_parts.specs.declared.signed.Signed.{Signed}
use Rattle.zy_table.specs.Beginning.{adopt, arrive, certify, finished}
use Rattle.zy_table.specs.Confirming.{certificate_compared, certificate_judged, confirmation, confirmation_beside, confirmation_judged, new_view, new_view_judged, view_certificate, with_confirmation}
use Rattle.zy_table.specs.Deeds.{begin}
use Rattle.zy_table.specs.Fetching.{fetch, fetch_judged}
use Rattle.zy_table.specs.Leaving.{leave_alone}
use Rattle.zy_table.specs.State as table
use Rattle.zy_table.specs.State.{State}
use Rattle.zy_vframes.specs.declared.frame.ViewCert.{ViewCert}
use Rattle.zy_law_views.proofs.TieKept.{tied_heard}
use Rattle.zy_law_views.specs.Held.{IsHeldChange, IsHeldPart}
use Rattle.zy_law_views.specs.Texts.{Texts}
use Rattle.zy_law_views.specs.Tied.{IsAhead, IsChosenNew, IsHearing, IsKeptBegan, IsViewCert}
use Rattle.zy_law_views.specs.Told.{began_told}
use Rattle.zy_law_views.proofs.HeardRows.{sent_more}
use Rattle.zy_law_views.proofs.Leaves.{IsOnWay, accept_on, at_begin, begin_world}
use Rattle.zy_law_views.proofs.Led.{leads_nowhere}
use Rattle.zy_law_views.specs.Cores.{core_of}
use Rattle.zy_law_views.specs.Rows.{IsReady, blames}
use Rattle.zy_law_views.proofs.Adopting.{IsDoneAttempt, IsDueTo, adopts, certifies, finishes, refuses}
use Rattle.zy_law_views.proofs.Judged.{judged_cert, judged_new, refused_new, uncertified}
use Rattle.zy_law_views.proofs.Waiting.{arrived}
use Rattle.zy_law_views.specs.Steps.{IsLawfulStep, IsWorldOf}

-- a view that isn't over is one that the replica may begin
may_begin : (last : ℕ) (mode : Mode) (view : ℕ) → IsAhead last mode → (view_of mode).0 ≤ view → has_begun mode view ≡ false → last < view
may_begin last (Active own) view ahead low begun = by (nat_lt own.0 view) refl
  where
    by : (less : Bool) → nat_lt own.0 view ≡ less → last < view
    by true less = let above = ltb-true _ _ less in omega arith
    by false more =
        let high = ltb-false _ _ more in
        let same : nat_eq view own.0 ≡ true = eq-eqb view own.0 (omega arith) in
        absurd cc
may_begin last (Leaving own) view ahead low begun = omega arith

module _ {S : Type 0} (R : Rules S) (interval : ℕ) (texts : Texts) (w : World) (r : ℕ) (s : State S) (history : List Entry) (ready : IsReady R interval w r s history) (kept : IsWorldOf R interval w texts) where
  record IsOpen (view : ℕ) : Type 0 where
    own : own_view s.views ≤ view
    later : s.views.last_view.0 < view

  open_view : (view : ℕ) → is_over s.views view ≡ false → IsOpen view
  open_view view over =
      let both = or_parts (nat_lt view (own_view s.views)) (has_begun s.views.mode view) over in
      let own = ltb-false _ _ both.0 in
      record { own = omega arith; later = may_begin s.views.last_view.0 s.views.mode view ready.tied.quiet.ahead (omega arith) both.1 }

  abbrev start : IsOnWay R interval w r s history ready (begin s)
  start = at_begin R interval w r s history ready

  pub chosen_of : (n : New) (chosen : Chosen) → All (IsHeldChange w) n.changes → chosen_in s.views.counts s.views.interval n ≡ Ok chosen → IsChosenNew interval w n chosen
  chosen_of n chosen held is =
      judged_new w ready.lawful ready.links s.views.counts interval ready.tied.standing.counts n held chosen
      (ap (λ (k : ℕ). chosen_in s.views.counts k n) (sym ready.interval_is) ∙ is)

  against : (n : New) → All (IsHeldChange w) n.changes → (cause : Cause) → chosen_in s.views.counts s.views.interval n ≡ Err cause → blames cause ≡ false
  against n held cause is =
      refused_new w ready.lawful ready.links s.views.counts interval ready.tied.standing.counts n held cause (ap (λ (k : ℕ). chosen_in s.views.counts k n) (sym ready.interval_is) ∙ is)

  -- ---- a new view

  not_accepted : (view : View) → is_accepted view.0 s.views.accepted ≡ false → is_accepted view.0 (arrive R view (begin s)).state.views.accepted ≡ false
  unfolding leave_alone
  not_accepted view none = by (nat_lt (table.own_view s) view.0)
    where
      by : (b : Bool) → is_accepted view.0 (cond b (leave_alone R view (begin s)) (begin s)).state.views.accepted ≡ false
      by true = refl
      by false = none

  module _ (new : Signed New) (held : All (IsHeldChange w) new.stmt.changes) where
    new_judged : IsOpen new.stmt.view.0 → is_accepted new.stmt.view.0 s.views.accepted ≡ false → (told : Result Chosen Cause) → chosen_in s.views.counts s.views.interval new.stmt ≡ told
        → IsDoneAttempt R interval texts w r s history ready kept (new_view_judged R s new told)
    new_judged is none (Err cause) told = against new.stmt held cause told
    new_judged is none (Ok chosen) told =
        let here = arrived R interval w r s history ready (begin s) start new.stmt.view is.own is.later in
        let choice : IsChosenNew interval start.world new.stmt chosen = subst (λ (u : World). IsChosenNew interval u new.stmt chosen) (sym (begin_world R interval w r s history ready)) (chosen_of new.stmt chosen held told) in
        inl (accept_on R interval w r s history ready (arrive R new.stmt.view (begin s)) here.way (record { new = new; chosen = chosen }) here.leaving (not_accepted new.stmt.view none) (here.chosen new.stmt chosen choice))

    pub new_attempt : IsDoneAttempt R interval texts w r s history ready kept (new_view R s new)
    unfolding new_view
    new_attempt = by (is_over s.views new.stmt.view.0) (is_accepted new.stmt.view.0 s.views.accepted) (leads s.views new.stmt.view.0) refl refl
      where
        by : (over accepted leading : Bool) → is_over s.views new.stmt.view.0 ≡ over → is_accepted new.stmt.view.0 s.views.accepted ≡ accepted
            → IsDoneAttempt R interval texts w r s history ready kept (cond over (Err causes.OldView) (cond (accepted || leading) (Err causes.Repeat) (new_view_judged R s new (chosen_in s.views.counts s.views.interval new.stmt))))
        by true accepted leading is none = refl
        by false true leading is none = refl
        by false false true is none = refl
        by false false false is none = new_judged (open_view new.stmt.view.0 is) none (chosen_in s.views.counts s.views.interval new.stmt) refl

    pub new_lawful : IsLawfulStep R interval texts w r s history (finished R s (new_view R s new))
    new_lawful = finishes R interval texts w r s history ready kept (new_view R s new) new_attempt

  -- ---- another's confirmation

  module _ (vote : Signed Began) (by_replica : vote.by ≡ Replica (record { 0 = number_of_party vote.by })) (held : IsHeldPart w began_told vote) where
    heard : IsHearing interval w (with_began vote s.views)
    heard =
        record {
          changes = ready.tied.hearing.changes;
          begans = λ id q at.
              elim (kept_or_filled s.views.begans (number_of_party vote.by) id vote q at) [
                | inl both ↦ subst (λ (n : ℕ). IsKeptBegan w n q) (sym both.0) (subst (λ (x : Signed Began). IsKeptBegan w (number_of_party vote.by) x) (sym both.1) (record { by = by_replica; held = held }))
                | inr other ↦ ready.tied.hearing.begans id q other
              ];
          accepted = ready.tied.hearing.accepted;
          waiting = ready.tied.hearing.waiting;
        }

    vote_kept : IsOnWay R interval w r s history ready (begin (with_confirmation vote s))
    vote_kept =
        record {
          world = w;
          lead = leads_nowhere w r (table.own_view s) (length (w.past r) - 1) history;
          told = w.said;
          world_is = refl;
          now = refl;
          lawful = ready.lawful;
          links = ready.links;
          correct = ready.correct;
          tied = tied_heard R interval w ready.lawful r ready.correct (core_of s) history ready.tied s.views.changes (with_began vote s.views).begans s.views.hated s.views.waiting heard;
          signer = ready.signer;
          interval_is = ready.interval_is;
          idle = refl;
          works = λ work. work;
        }

    beside : (own : Began) → IsDoneAttempt R interval texts w r s history ready kept (confirmation_beside R s vote own)
    beside own = by (same_digest own.head vote.stmt.head) (same_began vote.stmt own)
      where
        by : (head stmt : Bool) → IsDoneAttempt R interval texts w r s history ready kept (cond (not head) (Err (causes.OtherHistory own.head vote.stmt.head)) (cond stmt (certify R Taken (begin (with_confirmation vote s))) (Err causes.Unmatched)))
        by false stmt = refl
        by true false = refl
        by true true = certifies R interval texts w r s history ready kept (begin (with_confirmation vote s)) vote_kept Taken

    judged : (accepted : Option Accepted) → IsDoneAttempt R interval texts w r s history ready kept (confirmation_judged R s vote accepted)
    judged None = inl vote_kept
    judged (Some a) = beside (began_for a.new.stmt.view a.chosen)

    pub confirmation_attempt : IsDoneAttempt R interval texts w r s history ready kept (confirmation R s vote)
    unfolding confirmation
    confirmation_attempt = by (is_over s.views vote.stmt.view.0) (is_began_from vote.stmt.view.0 (slot_of vote.by s.views.begans))
      where
        by : (over repeated : Bool) → IsDoneAttempt R interval texts w r s history ready kept (cond over (Err causes.OldView) (cond repeated (Err causes.Repeat) (confirmation_judged R s vote (accepted_for vote.stmt.view.0 s.views.accepted))))
        by true repeated = refl
        by false true = refl
        by false false = judged (accepted_for vote.stmt.view.0 s.views.accepted)

    pub confirmation_lawful : IsLawfulStep R interval texts w r s history (finished R s (confirmation R s vote))
    confirmation_lawful = finishes R interval texts w r s history ready kept (confirmation R s vote) confirmation_attempt

  -- ---- a view certificate

  module _ (cert : ViewCert) (changes : All (IsHeldChange w) cert.new.stmt.changes) (begans : All (IsHeldPart w began_told) cert.begans) where
    compared : (chosen : Chosen) → IsOpen cert.new.stmt.view.0 → IsChosenNew interval w cert.new.stmt chosen → (told : Result (View × Place × Digest) Cause)
        → certified same_began point_of_began s.views.counts.cert cert.begans ≡ told → IsDoneAttempt R interval texts w r s history ready kept (certificate_compared R s cert chosen told)
    compared chosen is choice (Err cause) told = uncertified same_began point_of_began s.views.counts.cert cert.begans cause told
    compared chosen is choice (Ok found) told = by (is_certified_at (cert.new.stmt.view, chosen.place, chosen.head) (Ok found)) refl
      where
        due : is_certified_at (cert.new.stmt.view, chosen.place, chosen.head) (Ok found) ≡ true → IsDueTo R interval texts w r s history ready kept (begin s) start cert chosen
        due at =
            let proven = judged_cert w s.views.counts ready.tied.standing.counts cert.new.stmt.view chosen cert.begans found begans told at cert.new.stmt refl in
            let same = sym (begin_world R interval w r s history ready) in
            record {
              own = is.own;
              later = is.later;
              new = subst (λ (u : World). IsChosenNew interval u cert.new.stmt chosen) same choice;
              begans = subst (λ (u : World). IsViewCert u cert.new.stmt chosen cert.begans) same proven;
            }

        by : (b : Bool) → is_certified_at (cert.new.stmt.view, chosen.place, chosen.head) (Ok found) ≡ b → IsDoneAttempt R interval texts w r s history ready kept (cond b (adopt R cert chosen (begin s)) (Err causes.Unmatched))
        by true at = adopts R interval texts w r s history ready kept (begin s) start cert chosen (due at)
        by false at = refl

    cert_judged : IsOpen cert.new.stmt.view.0 → (told : Result Chosen Cause) → chosen_in s.views.counts s.views.interval cert.new.stmt ≡ told → IsDoneAttempt R interval texts w r s history ready kept (certificate_judged R s cert told)
    cert_judged is (Err cause) told = against cert.new.stmt changes cause told
    cert_judged is (Ok chosen) told =
        compared chosen is (chosen_of cert.new.stmt chosen changes told) (certified same_began point_of_began s.views.counts.cert cert.begans) refl

    pub cert_attempt : IsDoneAttempt R interval texts w r s history ready kept (view_certificate R s cert)
    unfolding view_certificate
    cert_attempt = by (is_over s.views cert.new.stmt.view.0) refl
      where
        by : (over : Bool) → is_over s.views cert.new.stmt.view.0 ≡ over → IsDoneAttempt R interval texts w r s history ready kept (cond over (Err causes.OldView) (certificate_judged R s cert (chosen_in s.views.counts s.views.interval cert.new.stmt)))
        by true over = refl
        by false over = cert_judged (open_view cert.new.stmt.view.0 over) (chosen_in s.views.counts s.views.interval cert.new.stmt) refl

    pub cert_lawful : IsLawfulStep R interval texts w r s history (finished R s (view_certificate R s cert))
    cert_lawful = finishes R interval texts w r s history ready kept (view_certificate R s cert) cert_attempt

  -- ---- another's wish for the stable snapshot: it is sent

  fetch_judged_ends : (vote : Signed Fetch) (against : Option Cause) → IsLawfulStep R interval texts w r s history (finished R s (fetch_judged R s vote against))
  fetch_judged_ends vote (Some cause) = refuses R interval texts w r s history ready kept cause
  fetch_judged_ends vote None =
      finishes R interval texts w r s history ready kept (fetch_judged R s vote None) (inl (sent_more R interval w r s history ready (begin s) _ start))

  pub fetch_lawful : (vote : Signed Fetch) → IsLawfulStep R interval texts w r s history (finished R s (fetch R s vote))
  unfolding fetch
  fetch_lawful vote = fetch_judged_ends vote (fetch_cause s.board.stable vote.stmt)
