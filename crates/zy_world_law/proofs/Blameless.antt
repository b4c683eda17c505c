-- A step of a correct replica in a good world is refused for no cause that blames anyone, but where a frame tells another snapshot.
use Rattle.std.proofs.Common.{◌≡◌, inl, inr, ℕ, nat_lt, Bool, true, false, List, Some, None, Ok, Err, refl, sym, ◌∙◌, subst, arith}
use Rattle.std.specs.Prelude.{All, map, if◌then◌else◌}
use Rattle.std.proofs.lemmas.Bool.{ltb-false}
use Rattle.zy_cert.specs.Equal.{digest-equal}
use Rattle.zy_admit.specs.Judging.{judge_in, same_digest, ordered_entry}
use Rattle.zy_admit.specs.Orders.{stored_in}
use Rattle.zy_admit.specs.declared.judging.Admit.{Admit}
use Rattle.zy_admit.specs.declared.judging.Admit.TheVariants as admits
use Rattle.zy_base.specs.Machine.{Rules}
use Rattle.zy_base.specs.declared.cause.Cause.{Cause}
use Rattle.zy_base.specs.declared.cause.Cause.TheVariants as causes
use Rattle.zy_base.specs.declared.step.Event.TheVariants.{Timer}
use Rattle.zy_base.specs.declared.step.TimerKind.{TimerKind}
use Rattle.zy_base.specs.declared.step.TimerKind.TheVariants as timers
use Rattle.zy_law_views.proofs.Adopting.{unblamed, unblamed_leaving}
use Rattle.zy_law_views.proofs.HonestFrames.{began_held, begans_held, by_replica}
use Rattle.zy_law_views.proofs.BeginningRows.{cert_attempt, confirmation_attempt, new_attempt}
use Rattle.zy_law_views.specs.Frames.{IsHonestFrame}
use Rattle.zy_law_views.specs.Steps.{IsWorldOf}
use Rattle.zy_chain.specs.declared.entry.Entry.{Entry}
use Rattle.zy_frames.specs.declared.frame.Frame.{Frame}
use Rattle.zy_frames.specs.declared.frame.Frame.TheVariants as frames
use Rattle.zy_frames.specs.declared.frame.OrderFrame.{OrderFrame}
use Rattle.zy_law.specs.World as law
use Rattle.zy_law_normal.proofs.Own.{by_test}
use Rattle.zy_parts.specs.Numbers as numbers
use Rattle.zy_parts.specs.Reports.{began_fields}
use Rattle.zy_parts.specs.Signing.{part_of}
use Rattle.zy_parts.specs.declared.reports.Fetch.{Fetch}
use Rattle.zy_parts.specs.declared.signed.Signed.{Signed}
use Rattle.zy_table.proofs.AttemptAnswers.{Ends, begun_ends, certificate_ends, change_ends, change_timer_ends, confirmation_ends, fetch_ends, hate_ends, new_ends, order_ends, pom_ends, request_timer_ends, state_ends}
use Rattle.zy_table.specs.Beginning.{begun, finished}
use Rattle.zy_table.specs.Changes.{change}
use Rattle.zy_table.specs.Confirming.{confirmation, new_view, view_certificate}
use Rattle.zy_table.specs.Fetching.{fetch, fetch_judged, state_transfer}
use Rattle.zy_table.specs.Hates.{hate, on_change_timer, on_request_timer}
use Rattle.zy_table.specs.Deeds.{Outcome}
use Rattle.zy_table.specs.Leaving.{Attempt, concluded, is_overspent}
use Rattle.zy_table.specs.Misbehaviour.{pom, tell_all}
use Rattle.zy_table.specs.Orders.{position_of}
use Rattle.zy_table.specs.State.{State}
use Rattle.zy_table.specs.Whole.{order_judged, plain_row, view_row, whole_step}
use Rattle.zy_table.specs.declared.deeds.AnyFrame.TheVariants.{Plain, View}
use Rattle.zy_vframes.specs.Parts.{parts_of_new}
use Rattle.zy_vframes.specs.declared.frame.ViewFrame.{ViewFrame}
use Rattle.zy_vframes.specs.declared.frame.ViewFrame.TheVariants as view_frames
use Rattle.zy_law_views.proofs.HonestTexts.{change_held, changes_held}
use Rattle.zy_law_views.proofs.Lists.{all_left, all_right}
use Rattle.zy_law_views.specs.Held.{AreLinksKept, IsHeldChange, IsHonestPart}
use Rattle.zy_law_views.specs.Texts.{Texts}
use Rattle.zy_law_views.proofs.HeardRows.{change_attempt, order_attempt, pom_attempt, request_attempt, vote_attempt}
use Rattle.zy_law_views.proofs.Leaves.{hate_attempt}
use Rattle.zy_law_views.specs.Rows.{IsReady, blames}
use Rattle.zy_law_views.specs.Wanted.{IsUnwanted}
use Rattle.zy_world_law.specs.Blame.{IsOfSnapshot, IsOtherWish}
use Rattle.zy_law_views.proofs.IdleFrames.{TellsOfClients}
use Rattle.zy_world_law.proofs.RowCauses.{IsFree, IsFreeAdmit, Just, NoExcuse, admit_free, checkpoint_just, commit_just, confirm_just, free, hole_just, order_as_just, refused_just, request_just, response_just, taken_just, view_just}
use Rattle.zy_world_law.proofs.StepLaws.{StepLaws}

-- ---- the end of a row that may fail on its way

module _ {S : Type 0} (R : Rules S) (s : State S) where
  finish_just : (Excuse : Cause → Type 0) (attempt : Attempt S) → Ends attempt → ((cause : Cause) → begun R attempt ≡ Err cause → IsFree Excuse cause) → Just R s Excuse (finished R s attempt)
  finish_just Excuse attempt is causes_free = by (begun R attempt) refl (begun_ends R attempt is)
    where
      by : (last : Attempt S) → begun R attempt ≡ last → Ends last → Just R s Excuse (concluded s last)
      by (Err cause) at ends = refused_just Excuse cause (causes_free cause at)
      by (Ok end) at ends =
          by_test (λ (o : Outcome S). Just R s Excuse o) (is_overspent end.1.state.sealer) _ _ (λ over. free R s Excuse causes.KeySpent refl) (λ fits cause same. absurd (ends cause same))

module _ {S : Type 0} (R : Rules S) (laws : StepLaws R) (interval : ℕ) (texts : Texts) (w : law.World) (r : ℕ) (s : State S) (h : List Entry) (ready : IsReady R interval w r s h) (kept : IsWorldOf R interval w texts) where
  -- ---- frames of normal operation

  judged_just : (Excuse : Cause → Type 0) (both : OrderFrame) (a : Admit) → a ≡ judge_in s.orders both.order.stmt (ordered_entry both) (position_of R s both) → Just R s Excuse (order_judged R s both a)
  judged_just Excuse both admits.Evidence is =
      let stored = stored_in s.orders both.order.stmt.place.0 in
      finish_just R s Excuse (tell_all R s both.order stored) (order_ends R s both.order stored)
      (λ cause refuses. inl (unblamed_leaving R interval texts w r s h ready kept (tell_all R s both.order stored) (order_attempt R interval w r s h ready both.order stored) cause refuses))
  judged_just Excuse both admits.Next is = order_as_just R s Excuse both admits.Next tt
  judged_just Excuse both admits.Held is = order_as_just R s Excuse both admits.Held tt
  judged_just Excuse both (admits.Refused cause) is =
      order_as_just R s Excuse both (admits.Refused cause)
      (subst (λ (a : Admit). IsFreeAdmit R s Excuse a) (sym is) (admit_free R s Excuse (stored_in s.orders both.order.stmt.place.0) both.order.stmt both.ask (position_of R s both)))

  pub plain_just : (frame : Frame) → Just R s (IsOfSnapshot R s (Plain frame)) (plain_row R s frame)
  plain_just (frames.Request ask) = request_just R s (IsOfSnapshot R s (Plain (frames.Request ask))) ask
  plain_just (frames.Order both) =
      let Excuse : Cause → Type 0 = IsOfSnapshot R s (Plain (frames.Order both)) in view_just R s Excuse both.order.stmt.view.0 _ (judged_just Excuse both _ refl)
  plain_just (frames.SpecResponse spec reply with_order) =
      let Excuse : Cause → Type 0 = IsOfSnapshot R s (Plain (frames.SpecResponse spec reply with_order)) in view_just R s Excuse spec.stmt.view.0 _ (response_just R s Excuse spec)
  plain_just (frames.Commit specs) = commit_just R s (IsOfSnapshot R s (Plain (frames.Commit specs))) specs
  plain_just (frames.LocalCommit local) = free R s (IsOfSnapshot R s (Plain (frames.LocalCommit local))) causes.WrongRole refl
  plain_just (frames.ConfirmReq confirmed ask) =
      let Excuse : Cause → Type 0 = IsOfSnapshot R s (Plain (frames.ConfirmReq confirmed ask)) in view_just R s Excuse confirmed.stmt.view.0 _ (confirm_just R s Excuse confirmed ask)
  plain_just (frames.FillHole hole) =
      let Excuse : Cause → Type 0 = IsOfSnapshot R s (Plain (frames.FillHole hole)) in view_just R s Excuse hole.stmt.view.0 _ (hole_just R s Excuse hole)
  plain_just (frames.Hate vote) =
      finish_just R s (IsOfSnapshot R s (Plain (frames.Hate vote))) (hate R s vote) (hate_ends R s vote)
      (λ cause refuses. inl (unblamed_leaving R interval texts w r s h ready kept (hate R s vote) (hate_attempt R interval w r s h ready vote) cause refuses))
  plain_just (frames.Pom first second) =
      finish_just R s (IsOfSnapshot R s (Plain (frames.Pom first second))) (pom R s first second) (pom_ends R s first second)
      (λ cause refuses. inl (unblamed_leaving R interval texts w r s h ready kept (pom R s first second) (pom_attempt R interval w r s h ready first second) cause refuses))
  plain_just (frames.Checkpoint check) =
      let Excuse : Cause → Type 0 = IsOfSnapshot R s (Plain (frames.Checkpoint check)) in view_just R s Excuse check.stmt.view.0 _ (checkpoint_just R s Excuse check (λ cause is. is))

  -- ---- frames of a change of view

  fetch_free : (vote : Signed Fetch) (cause : Cause) → begun R (fetch R s vote) ≡ Err cause → IsFree (IsOtherWish s vote.stmt) cause
  unfolding fetch
  fetch_free vote cause = by (nat_lt vote.stmt.place.0 s.board.stable.place.0) (nat_lt s.board.stable.place.0 vote.stmt.place.0) (same_digest s.board.stable.state vote.stmt.state) refl refl refl
    where
      is_cause : (other : Cause) → IsFree (IsOtherWish s vote.stmt) other → ◌≡◌ {A = Attempt S} (Err other) (Err cause) → IsFree (IsOtherWish s vote.stmt) cause
      is_cause other is same = let one : other ≡ cause = cc in subst (IsFree (IsOtherWish s vote.stmt)) one is

      by : (below above same : Bool) → nat_lt vote.stmt.place.0 s.board.stable.place.0 ≡ below → nat_lt s.board.stable.place.0 vote.stmt.place.0 ≡ above → same_digest s.board.stable.state vote.stmt.state ≡ same
          → begun R (fetch_judged R s vote (if below then Some causes.OldPlace else (if above then Some (causes.Behind vote.stmt.place) else (if same then None else Some (causes.WrongState s.board.stable.state vote.stmt.state))))) ≡ Err cause
          → IsFree (IsOtherWish s vote.stmt) cause
      by true above same low high alike is = is_cause causes.OldPlace (inl refl) is
      by false true same low high alike is = is_cause (causes.Behind vote.stmt.place) (inl refl) is
      by false false false low high alike is =
          is_cause (causes.WrongState s.board.stable.state vote.stmt.state)
          (inr (record {
            placed = omega (arith, ltb-false _ _ low, ltb-false _ _ high);
            other = λ equal. let both : false ≡ true = sym alike ∙ (digest-equal s.board.stable.state vote.stmt.state).1 equal in absurd cc;
            told = refl;
          })) is
      by false false true low high alike is = absurd cc

  pub view_just_row : (frame : ViewFrame) → TellsOfClients frame → IsHonestFrame w texts frame → Just R s (IsOfSnapshot R s (View frame)) (view_row R s frame)
  view_just_row (view_frames.ViewChange vote) clients honest =
      let held : IsHeldChange w vote = change_held w vote honest.spelled (honest.brought clients) honest.parts in
      finish_just R s (IsOfSnapshot R s (View (view_frames.ViewChange vote))) (change R s vote) (change_ends R s vote)
      (λ cause refuses. inl (unblamed_leaving R interval texts w r s h ready kept (change R s vote) (vote_attempt R interval w r s h ready vote (by_replica w _ vote.by held.signer) held) cause refuses))
  view_just_row (view_frames.NewView new) clients honest =
      let links : All (AreLinksKept w) new.stmt.changes = λ k d within. honest.brought k d within (clients k d within) in
      finish_just R s (IsOfSnapshot R s (View (view_frames.NewView new))) (new_view R s new) (new_ends R s new)
      (λ cause refuses. inl (unblamed R interval texts w r s h ready kept (new_view R s new) (new_attempt R interval texts w r s h ready kept new (changes_held w new honest.spelled links honest.parts)) cause refuses))
  view_just_row (view_frames.ViewConfirm vote) clients honest =
      let held = began_held w vote honest.spelled (honest.parts 0 (part_of numbers.began began_fields vote) (omega arith)) in
      finish_just R s (IsOfSnapshot R s (View (view_frames.ViewConfirm vote))) (confirmation R s vote) (confirmation_ends R s vote)
      (λ cause refuses. inl (unblamed R interval texts w r s h ready kept (confirmation R s vote) (confirmation_attempt R interval texts w r s h ready kept vote (by_replica w _ vote.by held) held) cause refuses))
  view_just_row (view_frames.ViewCert cert) clients honest =
      let begans = map (part_of numbers.began began_fields) cert.begans in
      let links : All (AreLinksKept w) cert.new.stmt.changes = λ k d within. honest.brought k d within (clients k d within) in
      finish_just R s (IsOfSnapshot R s (View (view_frames.ViewCert cert))) (view_certificate R s cert) (certificate_ends R s cert)
      (λ cause refuses. inl (unblamed R interval texts w r s h ready kept (view_certificate R s cert)
      (cert_attempt R interval texts w r s h ready kept cert (changes_held w cert.new honest.spelled.0 links (all_left (IsHonestPart w) (parts_of_new cert.new) begans honest.parts))
      (begans_held w cert.begans honest.spelled.1 (all_right (IsHonestPart w) (parts_of_new cert.new) begans honest.parts))) cause refuses))
  view_just_row (view_frames.Fetch vote) clients honest = finish_just R s (IsOfSnapshot R s (View (view_frames.Fetch vote))) (fetch R s vote) (fetch_ends R s vote) (fetch_free vote)
  view_just_row (view_frames.State place snapshot) clients honest =
      finish_just R s (IsOfSnapshot R s (View (view_frames.State place snapshot))) (state_transfer R s place snapshot) (state_ends R s place snapshot) (λ cause refuses. by cause refuses (blames cause) refl)
    where
      by : (cause : Cause) → begun R (state_transfer R s place snapshot) ≡ Err cause → (b : Bool) → blames cause ≡ b → IsFree (IsUnwanted s place snapshot) cause
      by cause refuses false is = inl is
      by cause refuses true is = inr (laws.state_blames interval r texts w s h place snapshot cause ready kept honest.brought refuses is)

  -- ---- timers

  pub timer_just : (kind : TimerKind) → Just R s NoExcuse (whole_step R s (Timer kind))
  unfolding whole_step
  timer_just timers.Request =
      finish_just R s NoExcuse (on_request_timer R s s.views.mode) (request_timer_ends R s s.views.mode)
      (λ cause refuses. inl (unblamed_leaving R interval texts w r s h ready kept (on_request_timer R s s.views.mode) (request_attempt R interval w r s h ready s.views.mode) cause refuses))
  timer_just timers.Change =
      finish_just R s NoExcuse (on_change_timer R s s.views.mode) (change_timer_ends R s s.views.mode)
      (λ cause refuses. inl (unblamed_leaving R interval texts w r s h ready kept (on_change_timer R s s.views.mode) (change_attempt R interval w r s h ready s.views.mode) cause refuses))
  timer_just timers.Answer = taken_just NoExcuse
