-- Why a frame of normal operation is refused: for what blames nobody, or because a checkpoint tells another snapshot than the own.
use Rattle.std.proofs.Common.{◌≡◌, ◌⊎◌, inl, inr, ℕ, ◌+◌, nat_eq, nat_lt, Bool, true, false, List, [], ◌∷◌, Option, Some, None, Ok, Err, refl, sym, ◌∙◌, subst}
use Rattle.std.specs.Prelude.{◌%◌, Result, if◌then◌else◌, nat_le, option_map}
use Rattle.zy_admit.specs.Judging.{entry_of, judge_beside, judge_fresh, same_digest, same_order, ordered_entry, asking}
use Rattle.zy_admit.specs.Orders.{orders_from, stored_in}
use Rattle.zy_admit.specs.declared.judging.Admit.{Admit}
use Rattle.zy_admit.specs.declared.judging.Admit.TheVariants as admits
use Rattle.zy_admit.specs.declared.judging.Position.{Position}
use Rattle.zy_base.specs.Machine.{Rules}
use Rattle.zy_base.specs.declared.cause.Cause.{Cause}
use Rattle.zy_base.specs.declared.cause.Cause.TheVariants as causes
use Rattle.zy_base.specs.declared.ids.ClientId.{ClientId}
use Rattle.zy_base.specs.declared.ids.Digest.{Digest}
use Rattle.zy_base.specs.declared.ids.Party.{Party}
use Rattle.zy_base.specs.declared.ids.Place.{Place}
use Rattle.zy_base.specs.declared.ids.View.{View}
use Rattle.zy_base.specs.declared.step.Answer.{Answer}
use Rattle.zy_base.specs.declared.step.Answer.TheVariants.{Held, Refused, Taken}
use Rattle.zy_law_views.proofs.Judged.{uncertified}
use Rattle.zy_cert.specs.Certificates.{certified}
use Rattle.zy_cert.specs.Equal as certs
use Rattle.zy_cert.specs.Equal.{digest-equal, same_spec}
use Rattle.zy_cert.specs.Points.{point_of_spec}
use Rattle.zy_cert.specs.Signers.{has_signer}
use Rattle.zy_chain.specs.Entries.{digest_of_entry, newer}
use Rattle.zy_chain.specs.Heads.{head_after}
use Rattle.zy_chain.specs.Stretch.{head_in}
use Rattle.zy_check.specs.Board as boards
use Rattle.zy_check.specs.Board.{Board, checks_at, specs_at, with_check, with_spec}
use Rattle.zy_check.specs.Judging as judging
use Rattle.zy_check.specs.Judging.{beside_check, beside_spec, first_cause, judge_check, judge_spec, place_cause}
use Rattle.zy_check.specs.declared.kept.Kept.{Kept}
use Rattle.zy_check.specs.declared.kept.Kept.TheVariants as answers
use Rattle.zy_exec.specs.Kept.{known_in, last_place, stretch_of}
use Rattle.zy_exec.specs.declared.known.Known.{Known}
use Rattle.zy_frames.specs.declared.frame.OrderFrame.{OrderFrame}
use Rattle.zy_law_normal.proofs.Own.{by_test}
use Rattle.zy_parts.specs.declared.signed.Signed.{Signed}
use Rattle.zy_parts.specs.declared.statements.Ask.{Ask}
use Rattle.zy_parts.specs.declared.statements.Check.{Check}
use Rattle.zy_parts.specs.declared.statements.Confirm.{Confirm}
use Rattle.zy_parts.specs.declared.statements.Hole.{Hole}
use Rattle.zy_parts.specs.declared.statements.Local.{Local}
use Rattle.zy_parts.specs.declared.statements.Order.{Order}
use Rattle.zy_parts.specs.declared.statements.Spec.{Spec}
use Rattle.zy_table.specs.Checkpoints.{checkpoint, kept_as, response, with_board}
use Rattle.zy_table.specs.Commits.{commit, commit_beside, commit_judged, local_at, local_said, locals_owed}
use Rattle.zy_table.specs.Confirms.{confirm, confirm_after, order_again}
use Rattle.zy_table.specs.Deeds.{Outcome, refused}
use Rattle.zy_table.specs.Gathering.{checks_owed, own_at, with_certificate}
use Rattle.zy_table.specs.Holes.{fill_hole, fill_with}
use Rattle.zy_table.specs.Orders.{order_as, owes_hole}
use Rattle.zy_table.specs.Requests.{is_behind, new_request, request, request_after, request_at_backup, respond_as}
use Rattle.zy_table.specs.Roles.{view_cause}
use Rattle.zy_table.specs.Running.{signs_of, spec_of}
use Rattle.zy_table.specs.State.{State, is_leaving, is_primary, signs_left, own_view, pending_of, window_of, spec_said}
use Rattle.zy_table.specs.Whole.{commit_in_view, unless}
use Rattle.zy_table.specs.declared.kept.OwnCheckpoint.{OwnCheckpoint}
use Rattle.zy_table.specs.declared.kept.Pending.{Pending}
use Rattle.zy_law_views.specs.Rows.{blames}
use Rattle.zy_world_law.specs.Blame.{IsOtherCheckpoint}

-- it blames nobody, or there is this excuse
abbrev pub IsFree : (Cause → Type 0) → Cause → Type 0
IsFree Excuse cause = (blames cause ≡ false) ⊎ Excuse cause

-- no frame is heard that excuses one
abbrev pub NoExcuse : Cause → Type 0
NoExcuse cause = ⊥

abbrev pub IsJustAnswer : (Cause → Type 0) → Answer → Type 0
IsJustAnswer Excuse answer = (cause : Cause) → answer ≡ Refused cause → IsFree Excuse cause

-- no step that is taken is refused
pub taken_just : (Excuse : Cause → Type 0) → IsJustAnswer Excuse Taken
taken_just Excuse cause is = absurd cc

pub held_just : (Excuse : Cause → Type 0) → IsJustAnswer Excuse Held
held_just Excuse cause is = absurd cc

pub refused_just : (Excuse : Cause → Type 0) (cause : Cause) → IsFree Excuse cause → IsJustAnswer Excuse (Refused cause)
refused_just Excuse cause free other is = let same : cause ≡ other = cc in subst (IsFree Excuse) same free

module _ {S : Type 0} (R : Rules S) (s : State S) where
  abbrev pub Just : (Cause → Type 0) → Outcome S → Type 0
  Just Excuse o = IsJustAnswer Excuse o.answer

  -- a cause that blames nobody
  abbrev pub Free : Cause → Type 0
  Free cause = blames cause ≡ false

  module _ (Excuse : Cause → Type 0) where
    pub free : (cause : Cause) → Free cause → Just Excuse (refused cause s)
    free cause blameless = refused_just Excuse cause (inl blameless)

    taken : IsJustAnswer Excuse Taken
    taken = taken_just Excuse

    keeps_waiting : IsJustAnswer Excuse Held
    keeps_waiting = held_just Excuse

    tested : (b : Bool) (x y : Outcome S) → Just Excuse x → Just Excuse y → Just Excuse (if b then x else y)
    tested b x y one other = by_test (Just Excuse) b x y (λ is. one) (λ is. other)

    pub view_just : (view : ℕ) (o : Outcome S) → Just Excuse o → Just Excuse (unless (view_cause s view) s o)
    view_just view o just =
        by_test (λ (c : Option Cause). Just Excuse (unless c s o)) (nat_lt view (own_view s)) _ _ (λ old. free causes.OldView refl)
        (λ not_old. by_test (λ (c : Option Cause). Just Excuse (unless c s o)) (nat_lt (own_view s) view) _ _ (λ newer. free causes.NewerView refl)
        (λ not_newer. by_test (λ (c : Option Cause). Just Excuse (unless c s o)) (is_leaving s) _ _ (λ leaves. free causes.NotActive refl) (λ stays. just)))

    -- ---- requests

    waits : (ask : Signed Ask) (pending : Option Pending) → Just Excuse (request_at_backup R s ask pending)
    waits ask None = tested (nat_le 1 (signs_left s)) _ _ taken (free causes.KeySpent refl)
    waits ask (Some pending) = tested (nat_eq ask.stmt.stamp.0 pending.ask.stmt.stamp.0) _ _ taken (tested (nat_le 1 (signs_left s)) _ _ taken (free causes.KeySpent refl))

    new_just : (ask : Signed Ask) → Just Excuse (new_request R s ask)
    new_just ask =
        tested (is_primary s) _ _
        (tested (nat_lt (last_place s.kept) (window_of s)) _ _ (tested (nat_le (signs_of R s (entry_of ask) + 1) (signs_left s)) _ _ taken (free causes.KeySpent refl)) (free (causes.WindowFull (record { 0 = window_of s })) refl))
        (waits ask (pending_of s (asking ask.by)))

    responds : (said : Option (Signed Spec)) (spec : Spec) (known : Known) → Just Excuse (respond_as R s said spec known)
    responds None spec known = tested (nat_le 1 (signs_left s)) _ _ taken (free causes.KeySpent refl)
    responds (Some signed) spec known = taken

    after_known : (ask : Signed Ask) (known : Option Known) → Just Excuse (request_after R s ask known)
    after_known ask None = new_just ask
    after_known ask (Some known) =
        let spec = spec_of (own_view s) (entry_of ask) known in
        tested (nat_lt ask.stmt.stamp.0 known.stamp.0) _ _ (free causes.OldStamp refl)
        (tested (nat_eq ask.stmt.stamp.0 known.stamp.0) _ _ (responds (spec_said s spec) spec known) (new_just ask))

    pub request_just : (ask : Signed Ask) → Just Excuse (request R s ask)
    unfolding request
    request_just ask =
        tested (is_leaving s) _ _ (free causes.NotActive refl)
        (tested (is_behind ask (pending_of s (asking ask.by))) _ _ (free causes.OldStamp refl) (after_known ask (known_in R s.kept (asking ask.by).0)))

    again : (by : Party) (kept : Option OrderFrame) → Just Excuse (order_again s by kept)
    again by None = free causes.OldPlace refl
    again by (Some kept) = taken

    confirm_known : (by : Party) (ask : Signed Ask) (known : Option Known) → Just Excuse (confirm_after R s by ask known)
    confirm_known by ask None = request_just ask
    confirm_known by ask (Some known) =
        tested (nat_lt ask.stmt.stamp.0 known.stamp.0) _ _ (free causes.OldStamp refl)
        (tested (nat_eq ask.stmt.stamp.0 known.stamp.0) _ _ (again by (stored_in s.orders known.place.0)) (request_just ask))

    pub confirm_just : (confirmed : Signed Confirm) (ask : Signed Ask) → Just Excuse (confirm R s confirmed ask)
    unfolding confirm
    confirm_just confirmed ask =
        tested (same_digest confirmed.stmt.request (digest_of_entry (entry_of ask))) _ _ (confirm_known confirmed.by ask (known_in R s.kept (asking ask.by).0)) (free causes.Unmatched refl)

    -- ---- orders

    abbrev pub IsFreeAdmit : Admit → Type 0
    IsFreeAdmit (admits.Refused cause) = Free cause
    IsFreeAdmit admits.Next = Unit {0}
    IsFreeAdmit admits.Held = Unit {0}
    IsFreeAdmit admits.Evidence = Unit {0}

    admit_tested : (b : Bool) (x y : Admit) → IsFreeAdmit x → IsFreeAdmit y → IsFreeAdmit (if b then x else y)
    admit_tested b x y one other = by_test IsFreeAdmit b x y (λ is. one) (λ is. other)

    fresh_free : (order : Order) (ask : Signed Ask) (now : Position) → IsFreeAdmit (judge_fresh order (entry_of ask) now)
    fresh_free order ask now =
        admit_tested (nat_le order.place.0 now.end.0) _ _ refl
        (admit_tested (nat_lt now.window.0 order.place.0) _ _ refl
        (admit_tested (same_digest order.request (digest_of_entry (entry_of ask))) _ _
        (admit_tested (nat_lt (now.end.0 + 1) order.place.0) _ _ tt
        (admit_tested (same_digest order.head (head_after now.head (digest_of_entry (entry_of ask)))) _ _ (admit_tested (newer ask.stmt.stamp now.last) _ _ tt refl) refl)) refl))

    pub admit_free : (stored : Option OrderFrame) (order : Order) (ask : Signed Ask) (now : Position) → IsFreeAdmit (judge_beside stored order (entry_of ask) now)
    admit_free None order ask now = fresh_free order ask now
    admit_free (Some kept) order ask now = admit_tested (same_order kept.order.stmt order) _ _ refl tt

    pub order_as_just : (o : OrderFrame) (a : Admit) → IsFreeAdmit a → Just Excuse (order_as R s o a)
    order_as_just o admits.Next is = tested (nat_le (signs_of R s (ordered_entry o)) (signs_left s)) _ _ taken (free causes.KeySpent refl)
    order_as_just o admits.Held is = tested (owes_hole s) _ _ (tested (nat_le 1 (signs_left s)) _ _ keeps_waiting (free causes.KeySpent refl)) keeps_waiting
    order_as_just o (admits.Refused cause) is = free cause is
    order_as_just o admits.Evidence is = free causes.Unmatched refl

    -- ---- commit certificates and holes

    committed : (specs : List (Signed Spec)) (client : ClientId) (local : Local) (own : Option Digest) → Just Excuse (commit_beside R s specs client local own)
    committed specs client local None = free (causes.Behind local.place) refl
    committed specs client local (Some own) =
        tested (same_digest own local.head) _ _
        (tested (nat_le (locals_owed (local_said s local) + checks_owed (with_certificate s local.place specs) (own_at R s local.place.0) true) (signs_left s)) _ _ taken (free causes.KeySpent refl))
        (free (causes.OtherHistory own local.head) refl)

    commit_point : (specs : List (Signed Spec)) (client : ClientId) (point : Result (View × Place × Digest) Cause) → certified same_spec point_of_spec s.counts.cert specs ≡ point → Just Excuse (commit_judged R s specs client point)
    commit_point specs client (Err cause) is = free cause (uncertified same_spec point_of_spec s.counts.cert specs cause is)
    commit_point specs client (Ok point) is = committed specs client (local_at point) (head_in (stretch_of s.kept) point.1.0)

    commit_all : (first : Spec) (specs : List (Signed Spec)) → Just Excuse (commit R s first specs)
    unfolding commit
    commit_all first specs =
        tested (nat_lt first.place.0 s.orders.base) _ _ (free causes.OldPlace refl)
        (tested (nat_lt (last_place s.kept) first.place.0) _ _ (free (causes.Behind first.place) refl) (commit_point specs first.client (certified same_spec point_of_spec s.counts.cert specs) refl))

    pub commit_just : (specs : List (Signed Spec)) → Just Excuse (commit_in_view R s specs)
    commit_just [] = free (causes.TooFew 0) refl
    commit_just (first ∷ others) = view_just first.stmt.view.0 _ (commit_all first.stmt (first ∷ others))

    filled : (hole : Signed Hole) (orders : List OrderFrame) → Just Excuse (fill_with s hole orders)
    filled hole [] = tested (nat_le hole.stmt.to.0 (last_place s.kept)) _ _ (free causes.OldPlace refl) (free (causes.Behind hole.stmt.to) refl)
    filled hole (o ∷ orders) = taken_just Excuse

    pub hole_just : (hole : Signed Hole) → Just Excuse (fill_hole s hole)
    unfolding fill_hole
    hole_just hole = filled hole (orders_from hole.stmt.from.0 hole.stmt.to.0 s.orders)

    -- ---- responses and checkpoints

    abbrev IsFreeKept : Kept → Type 0
    IsFreeKept (answers.Refused cause) = IsFree Excuse cause
    IsFreeKept answers.Held = Unit {0}
    IsFreeKept (answers.Kept number) = Unit {0}

    kept_tested : (b : Bool) (x y : Kept) → IsFreeKept x → IsFreeKept y → IsFreeKept (if b then x else y)
    kept_tested b x y one other = by_test IsFreeKept b x y (λ is. one) (λ is. other)

    abbrev IsFreeCause : Option Cause → Type 0
    IsFreeCause None = Unit {0}
    IsFreeCause (Some cause) = Free cause

    cause_tested : (b : Bool) (x y : Option Cause) → IsFreeCause x → IsFreeCause y → IsFreeCause (if b then x else y)
    cause_tested b x y one other = by_test IsFreeCause b x y (λ is. one) (λ is. other)

    place_free : (place : ℕ) → IsFreeCause (place_cause s.board place)
    place_free place =
        cause_tested (nat_eq (place % s.board.interval) 0) _ _
        (cause_tested (nat_le place s.board.stable.place.0) _ _ refl (cause_tested (nat_lt (boards.window_of s.board) place) _ _ refl tt)) refl

    first_free : {A : Type 0} (cause : Option Cause) (by : Party) (list : List (Signed A)) → IsFreeCause cause → IsFreeCause (first_cause cause by list)
    first_free (Some cause) by list is = is
    first_free None by list is = cause_tested (has_signer by list) _ _ refl tt

    judged_free : (cause : Option Cause) (other : Kept) → IsFreeCause cause → IsFreeKept other → IsFreeKept (judging.answered cause other)
    judged_free (Some cause) other is is_other = inl is
    judged_free None other is is_other = is_other

    kept_just : (own : Option OwnCheckpoint) (answer : Kept) (board : Board) → IsFreeKept answer → Just Excuse (kept_as R s own answer board)
    kept_just own answers.Held board is = keeps_waiting
    kept_just own (answers.Kept number) board is = tested (nat_le (checks_owed (with_board s board) own false) (signs_left s)) _ _ taken (free causes.KeySpent refl)
    kept_just own (answers.Refused cause) board is = refused_just Excuse cause is

    spec_free : (list : List (Signed Spec)) (vote : Signed Spec) (own : Option Spec) → IsFreeKept (beside_spec list vote own)
    spec_free list vote None = tt
    spec_free list vote (Some own) =
        kept_tested (certs.same_digest vote.stmt.head own.head) _ _ (kept_tested (same_spec vote.stmt own) _ _ tt (inl refl)) (inl refl)

    pub response_just : (vote : Signed Spec) → Just Excuse (response R s vote)
    unfolding response judge_spec
    response_just vote =
        let own = own_at R s vote.stmt.place.0 in
        let list = specs_at s.board vote.stmt.place.0 in
        kept_just own (judge_spec s.board vote (option_map (λ o. o.spec) own)) (with_spec s.board vote)
        (judged_free (first_cause (place_cause s.board vote.stmt.place.0) vote.by list) (beside_spec list vote (option_map (λ o. o.spec) own)) (first_free (place_cause s.board vote.stmt.place.0) vote.by list (place_free vote.stmt.place.0))
        (spec_free list vote (option_map (λ o. o.spec) own)))

    check_free : (list : List (Signed Check)) (vote : Signed Check) → ((cause : Cause) → IsOtherCheckpoint R s vote.stmt cause → Excuse cause)
        → (own : Option OwnCheckpoint) → own_at R s vote.stmt.place.0 ≡ own → IsFreeKept (beside_check list vote (option_map (λ o. o.check) own))
    check_free list vote excuses None here = tt
    check_free list vote excuses (Some own) here =
        by_test IsFreeKept (certs.same_digest vote.stmt.head own.check.head) _ _
        (λ alike. by_test IsFreeKept (certs.same_digest vote.stmt.state own.check.state) _ _ (λ same. tt)
        (λ differs. inr (excuses (causes.WrongState own.check.state vote.stmt.state)
        (record {
          own = own;
          here = here;
          head = (digest-equal vote.stmt.head own.check.head).0 alike;
          other = λ equal. let both : false ≡ true = sym differs ∙ (digest-equal vote.stmt.state own.check.state).1 equal in absurd cc;
          told = refl;
        }))))
        (λ other. inl refl)

    pub checkpoint_just : (vote : Signed Check) → ((cause : Cause) → IsOtherCheckpoint R s vote.stmt cause → Excuse cause) → Just Excuse (checkpoint R s vote)
    unfolding checkpoint judge_check
    checkpoint_just vote excuses =
        let own = own_at R s vote.stmt.place.0 in
        let list = checks_at s.board vote.stmt.place.0 in
        kept_just own (judge_check s.board vote (option_map (λ o. o.check) own)) (with_check s.board vote)
        (judged_free (first_cause (place_cause s.board vote.stmt.place.0) vote.by list) (beside_check list vote (option_map (λ o. o.check) own)) (first_free (place_cause s.board vote.stmt.place.0) vote.by list (place_free vote.stmt.place.0))
        (check_free list vote excuses own refl))
