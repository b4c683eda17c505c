-- The rows of what makes a replica leave: another's report, evidence against its primary, and its own timers.
use Rattle.std.proofs.Common.{◌≡◌, ℕ, ◌-◌, ◌<◌, nat_eq, nat_lt, Bool, true, false, cond, if◌then◌else◌, inl, inr, List, length, Option, Some, None, Result, Ok, Err, refl, sym, ap, subst, arith, eq-eqb, eqb-true, ltb-true}
use Rattle.zy_base.specs.Machine.{Rules}
use Rattle.zy_base.specs.Step.{view_of}
use Rattle.zy_base.specs.declared.cause.Cause.{Cause}
use Rattle.zy_base.specs.declared.cause.Cause.TheVariants as causes
use Rattle.zy_base.specs.declared.counts.Counts.{Counts}
use Rattle.zy_base.specs.declared.ids.Party.TheVariants.{Replica}
use Rattle.zy_base.specs.declared.ids.View.{View}
use Rattle.zy_base.specs.declared.step.Answer.TheVariants.{Taken}
use Rattle.zy_base.specs.declared.step.Mode.{Mode}
use Rattle.zy_base.specs.declared.step.Mode.TheVariants.{Active, Leaving}
use Rattle.zy_cert.specs.Misbehaviour.{conflict, misbehaved}
use Rattle.zy_chain.specs.declared.entry.Entry.{Entry}
use Rattle.zy_change.proofs.AheadLemmas.{above_own, first_above}
use Rattle.zy_change.proofs.FitLemmas.{all_there, kept_or_filled}
use Rattle.zy_change.specs.Owing.{is_left_behind, least_above, next_view}
use Rattle.zy_change.specs.Views.{change_for, has_begun, is_from, is_hated_by, own_change, own_view, slot_of, view_above, views_above, with_change}
use Rattle.zy_evidence.proofs.ProofLemmas.{all_clear}
use Rattle.zy_evidence.specs.Reading.{number_of_party}
use Rattle.zy_evidence.specs.Rules.{rule_of}
use Rattle.zy_evidence.specs.WellFormed.{IsWellFormedChange}
use Rattle.zy_evidence.specs.declared.rule.Rule.{Rule}
use Rattle.zy_frames.specs.declared.frame.OrderFrame.{OrderFrame}
use Rattle.zy_law.specs.World.{World}
use Rattle.zy_parts.specs.declared.reports.Change.{Change}
use Rattle.zy_parts.specs.declared.signed.Signed.{Signed}
use Rattle.zy_parts.specs.declared.statements.Hate.{Hate}
use Rattle.zy_parts.specs.declared.statements.Hole.{Hole}
use Rattle.zy_parts.specs.declared.statements.Order.{Order}
use Rattle.zy_table.specs.Changes.{change, change_judged, change_kept, send_cert}
use Rattle.zy_table.specs.Deeds.{Going, begin}
use Rattle.zy_table.specs.Hates.{ask_for_hole, change_again, count_own, has_pending, hate_counted, hate_from, hate_now, hate_view, on_change_timer, on_request_timer, own_hate, say_hate, then_ask, with_hate_of}
use Rattle.zy_table.specs.Leaving.{Attempt, collect, concluded, goes, leave}
use Rattle.zy_table.specs.Misbehaviour.{blamed, pom, tell_all}
use Rattle.zy_table.specs.State as table
use Rattle.zy_table.specs.State.{State}
use Rattle.zy_table.specs.declared.deeds.Body.TheVariants as bodies
use Rattle.zy_table.specs.declared.deeds.Sent.{Sent}
use Rattle.zy_vframes.specs.declared.frame.ViewCert.{ViewCert}
use Rattle.zy_law_views.proofs.InView.{says_other}
use Rattle.zy_law_views.proofs.TieKept.{tied_heard}
use Rattle.zy_law_views.specs.Held.{IsHeldChange}
use Rattle.zy_law_views.specs.Tied.{IsHearing, IsKeptChange}
use Rattle.zy_law_views.proofs.Led.{leads_nowhere}
use Rattle.zy_law_views.proofs.AtWork.{works_said}
use Rattle.zy_law_views.proofs.Leaves.{IsOnWay, IsLawfulAttempt, at_begin, collect_on, concluded_row, counted, hated_more, leave_row, said_more}
use Rattle.zy_law_views.specs.Cores.{core_of}
use Rattle.zy_law_views.specs.Rows.{IsLawfulRow, IsReady, blames}

-- two orders that aren't told against each other blame nobody
no_conflict : (first second : Signed Order) (cause : Cause) → misbehaved first second ≡ Err cause → blames cause ≡ false
no_conflict first second cause = by (conflict first second)
  where
    by : (b : Bool) → (if b then Ok first.stmt.view else Err causes.NoConflict) ≡ Err cause → blames cause ≡ false
    by true told = absurd cc
    by false told = let same : causes.NoConflict ≡ cause = cc in subst (λ (c : Cause). blames c ≡ false) same refl

module _ {S : Type 0} (R : Rules S) (interval : ℕ) (w : World) (r : ℕ) (s : State S) (history : List Entry) (ready : IsReady R interval w r s history) where
  -- frames that are sent change nothing of it
  pub sent_more : (g : Going S) (sent : List Sent) → IsOnWay R interval w r s history ready g → IsOnWay R interval w r s history ready (record g { deeds = record g.deeds { sent = sent } })
  sent_more g sent way =
      record {
        world = way.world;
        lead = way.lead;
        told = way.told;
        world_is = way.world_is;
        now = way.now;
        lawful = way.lawful;
        links = way.links;
        correct = way.correct;
        tied = way.tied;
        signer = way.signer;
        interval_is = way.interval_is;
        idle = way.idle;
        works = way.works;
      }

  leaves_next : (g : Going S) → IsOnWay R interval w r s history ready g → IsLawfulAttempt R interval w r s history ready (leave R (next_view g.state.views) g)
  leaves_next g way = leave_row R interval w r s history ready (next_view g.state.views) g way (omega arith)

  -- ---- two orders of the primary

  blamed_on : (first second : Signed Order) (told : Result View Cause) → misbehaved first second ≡ told → IsLawfulAttempt R interval w r s history ready (blamed R s told)
  blamed_on first second (Err cause) told = no_conflict first second cause told
  blamed_on first second (Ok view) told = leaves_next (begin s) (at_begin R interval w r s history ready)

  pub pom_attempt : (first second : Signed Order) → IsLawfulAttempt R interval w r s history ready (pom R s first second)
  unfolding pom
  pom_attempt first second = by (nat_lt first.stmt.view.0 (table.own_view s)) (nat_lt (table.own_view s) first.stmt.view.0)
    where
      by : (old newer : Bool) → IsLawfulAttempt R interval w r s history ready (cond old (Err causes.OldView) (cond newer (Err causes.NewerView) (blamed R s (misbehaved first second))))
      by true newer = refl
      by false true = refl
      by false false = blamed_on first second (misbehaved first second) refl

  pub pom_lawful : (first second : Signed Order) → IsLawfulRow R interval w r s history (concluded s (pom R s first second))
  pom_lawful first second = concluded_row R interval w r s history ready (pom R s first second) (pom_attempt first second)

  pub order_attempt : (order : Signed Order) (kept : Option OrderFrame) → IsLawfulAttempt R interval w r s history ready (tell_all R s order kept)
  order_attempt order None = refl
  order_attempt order (Some kept) = leaves_next _ (sent_more (begin s) _ (at_begin R interval w r s history ready))

  pub order_lawful : (order : Signed Order) (kept : Option OrderFrame) → IsLawfulRow R interval w r s history (concluded s (tell_all R s order kept))
  order_lawful order kept = concluded_row R interval w r s history ready (tell_all R s order kept) (order_attempt order kept)

  -- ---- the own hate, and the timers

  pub said_hate : (said : Option (Signed Hate)) (g : Going S) → IsOnWay R interval w r s history ready g → IsOnWay R interval w r s history ready (say_hate R said g)
  said_hate (Some said) g way = sent_more g _ way
  said_hate None g way =
      let says = says_other R interval way.world way.lawful r way.correct (core_of g.state) history way.tied in
      said_more R interval w r s history ready g way (record { body = bodies.Hate (hate_now g.state); stood = table.stood_of R g.state }) (say_hate R None g) refl says.may says.tied way.signer way.interval_is
      (works_said interval way.world r _ g.state (λ v m request told. absurd cc))

  counts_own : (g : Going S) → IsOnWay R interval w r s history ready g → IsLawfulAttempt R interval w r s history ready (count_own R g)
  counts_own g way = by (is_hated_by g.state.views (Replica g.state.me))
    where
      rest : IsLawfulAttempt R interval w r s history ready (hate_counted R (with_hate_of (Replica g.state.me) g))
      rest = counted R interval w r s history ready (with_hate_of (Replica g.state.me) g) (hated_more R interval w r s history ready g way (Replica g.state.me))

      by : (b : Bool) → IsLawfulAttempt R interval w r s history ready (cond b (goes Taken g) (hate_counted R (with_hate_of (Replica g.state.me) g)))
      by true = way
      by false = rest

  -- the own view is hated, by either timer
  hates_from : (g : Going S) → IsOnWay R interval w r s history ready g → IsLawfulAttempt R interval w r s history ready (hate_from R g)
  unfolding hate_from
  hates_from g way = counts_own (say_hate R (own_hate g.state) g) (said_hate (own_hate g.state) g way)

  asks_hole : (mode : Mode) (hole : Option (Signed Hole)) (g : Going S) → IsOnWay R interval w r s history ready g → IsOnWay R interval w r s history ready (ask_for_hole mode hole g)
  asks_hole (Active view) (Some hole) g way = sent_more g _ way
  asks_hole (Active view) None g way = way
  asks_hole (Leaving view) hole g way = way

  then_asks : (attempt : Attempt S) → IsLawfulAttempt R interval w r s history ready attempt → IsLawfulAttempt R interval w r s history ready (then_ask attempt)
  then_asks (Err cause) lawful = lawful
  then_asks (Ok end) way = asks_hole end.1.state.views.mode end.1.state.hole end.1 way

  pub request_attempt : (mode : Mode) → IsLawfulAttempt R interval w r s history ready (on_request_timer R s mode)
  request_attempt (Active view) = then_asks (if has_pending s then hate_view R s else goes Taken (begin s)) (by (has_pending s))
    where
      by : (b : Bool) → IsLawfulAttempt R interval w r s history ready (cond b (hate_view R s) (goes Taken (begin s)))
      by true = hates_from (begin s) (at_begin R interval w r s history ready)
      by false = at_begin R interval w r s history ready
  request_attempt (Leaving view) = at_begin R interval w r s history ready

  pub request_timer_lawful : IsLawfulRow R interval w r s history (concluded s (on_request_timer R s s.views.mode))
  request_timer_lawful = concluded_row R interval w r s history ready (on_request_timer R s s.views.mode) (request_attempt s.views.mode)

  pub told_again : (change : Option (Signed Change)) (g : Going S) → IsOnWay R interval w r s history ready g → IsOnWay R interval w r s history ready (change_again change g)
  told_again None g way = way
  told_again (Some change) g way = sent_more g _ way

  pub change_attempt : (mode : Mode) → IsLawfulAttempt R interval w r s history ready (on_change_timer R s mode)
  change_attempt (Active view) = at_begin R interval w r s history ready
  change_attempt (Leaving view) =
      hates_from (change_again (change_for (table.own_view s) (own_change s.views)) (begin s))
      (told_again (change_for (table.own_view s) (own_change s.views)) (begin s) (at_begin R interval w r s history ready))

  pub change_timer_lawful : IsLawfulRow R interval w r s history (concluded s (on_change_timer R s s.views.mode))
  change_timer_lawful = concluded_row R interval w r s history ready (on_change_timer R s s.views.mode) (change_attempt s.views.mode)

  -- ---- another's report

  module _ (vote : Signed Change) (by_replica : vote.by ≡ Replica (record { 0 = number_of_party vote.by })) (held : IsHeldChange w vote) where
    abbrev kept_state : State S
    kept_state = record s { views = with_change vote s.views }

    vote_kept : rule_of s.views.counts s.views.interval vote.stmt ≡ None → IsKeptChange interval w (number_of_party vote.by) vote
    vote_kept clear =
        record {
          by = by_replica;
          well_formed =
              subst (λ (k : Counts). IsWellFormedChange k interval vote) ready.tied.standing.counts
              (subst (λ (n : ℕ). IsWellFormedChange s.views.counts n vote) ready.interval_is ((all_clear s.views.counts s.views.interval vote).0 clear));
          held = held;
        }

    heard : rule_of s.views.counts s.views.interval vote.stmt ≡ None → IsHearing interval w (with_change vote s.views)
    heard clear =
        record {
          changes = λ id q at.
              elim (kept_or_filled s.views.changes (number_of_party vote.by) id vote q at) [
                | inl both ↦ subst (λ (n : ℕ). IsKeptChange interval w n q) (sym both.0) (subst (λ (x : Signed Change). IsKeptChange interval w (number_of_party vote.by) x) (sym both.1) (vote_kept clear))
                | inr other ↦ ready.tied.hearing.changes id q other
              ];
          begans = ready.tied.hearing.begans;
          accepted = ready.tied.hearing.accepted;
          waiting = ready.tied.hearing.waiting;
        }

    pub kept_on : rule_of s.views.counts s.views.interval vote.stmt ≡ None → IsOnWay R interval w r s history ready (begin kept_state)
    kept_on clear =
        record {
          world = w;
          lead = leads_nowhere w r (table.own_view s) (length (w.past r) - 1) history;
          told = w.said;
          world_is = refl;
          now = refl;
          lawful = ready.lawful;
          links = ready.links;
          correct = ready.correct;
          tied = tied_heard R interval w ready.lawful r ready.correct (core_of s) history ready.tied (with_change vote s.views).changes s.views.begans s.views.hated s.views.waiting (heard clear);
          signer = ready.signer;
          interval_is = ready.interval_is;
          idle = refl;
          works = λ work. work;
        }

    -- the own view and later ones: it leaves for a later one, or gathers for its own
    mode_is : (mode : Mode) → has_begun mode vote.stmt.view.0 ≡ false → vote.stmt.view.0 ≡ (view_of mode).0 → mode ≡ Leaving vote.stmt.view
    mode_is (Active own) begun same = let is : nat_eq vote.stmt.view.0 own.0 ≡ true = eq-eqb vote.stmt.view.0 own.0 same in absurd cc
    mode_is (Leaving own) begun same = ap (λ (n : ℕ). Leaving (record { 0 = n })) (sym same)

    pub least_later : is_left_behind (with_change vote s.views) ≡ true → own_view s.views < (least_above (with_change vote s.views)).0
    least_later behind =
        let own = own_view s.views in
        first_above own (views_above own (with_change vote s.views).changes)
        (all_there (λ n. own < n) (view_above own) (λ o n is. above_own own o n is) (with_change vote s.views).changes)
        (let many = ltb-true s.views.counts.f (length (views_above own (with_change vote s.views).changes)) behind in omega arith)

    kept_attempt : rule_of s.views.counts s.views.interval vote.stmt ≡ None → has_begun s.views.mode vote.stmt.view.0 ≡ false → IsLawfulAttempt R interval w r s history ready (change_kept R vote.stmt.view (begin kept_state))
    kept_attempt clear begun = by (is_left_behind (with_change vote s.views)) (nat_eq vote.stmt.view.0 (table.own_view s)) refl refl
      where
        by : (behind own : Bool) → is_left_behind (with_change vote s.views) ≡ behind → nat_eq vote.stmt.view.0 (table.own_view s) ≡ own
            → IsLawfulAttempt R interval w r s history ready (cond behind (leave R (least_above (with_change vote s.views)) (begin kept_state)) (cond own (collect R vote.stmt.view (begin kept_state)) (goes Taken (begin kept_state))))
        by true own behind same = leave_row R interval w r s history ready (least_above (with_change vote s.views)) (begin kept_state) (kept_on clear) (least_later behind)
        by false true behind same =
            collect_on R interval w r s history ready vote.stmt.view (begin kept_state) (kept_on clear) (mode_is s.views.mode begun (eqb-true vote.stmt.view.0 (table.own_view s) same))
        by false false behind same = kept_on clear

    judged_attempt : (rule : Option Rule) → rule_of s.views.counts s.views.interval vote.stmt ≡ rule → has_begun s.views.mode vote.stmt.view.0 ≡ false → IsLawfulAttempt R interval w r s history ready (change_judged R s vote rule)
    judged_attempt (Some rule) is begun = refl
    judged_attempt None is begun = kept_attempt is begun

    sends_cert : (cert : Option ViewCert) → IsOnWay R interval w r s history ready (send_cert vote.by cert (begin s))
    sends_cert None = at_begin R interval w r s history ready
    sends_cert (Some cert) = sent_more (begin s) _ (at_begin R interval w r s history ready)

    pub vote_attempt : IsLawfulAttempt R interval w r s history ready (change R s vote)
    unfolding change
    vote_attempt = by (nat_lt vote.stmt.view.0 (table.own_view s)) (has_begun s.views.mode vote.stmt.view.0) (is_from vote.stmt.view.0 (slot_of vote.by s.views.changes)) refl
      where
        by : (old begun repeated : Bool) → has_begun s.views.mode vote.stmt.view.0 ≡ begun
            → IsLawfulAttempt R interval w r s history ready (cond old (Err causes.OldView) (cond begun (goes Taken (send_cert vote.by s.views.view_cert (begin s))) (cond repeated (Err causes.Repeat) (change_judged R s vote (rule_of s.views.counts s.views.interval vote.stmt)))))
        by true begun repeated is = refl
        by false true repeated is = sends_cert s.views.view_cert
        by false false true is = refl
        by false false false is = judged_attempt (rule_of s.views.counts s.views.interval vote.stmt) refl is

    pub change_lawful : IsLawfulRow R interval w r s history (concluded s (change R s vote))
    change_lawful = concluded_row R interval w r s history ready (change R s vote) vote_attempt
