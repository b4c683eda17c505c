-- The row of a new view comes to what was judged.
use Rattle.std.proofs.Common.{◌≡◌, ℕ, ◌+◌, ◌≤◌, nat_lt, Bool, true, false, if◌then◌else◌, [], Option, Some, None, Result, Ok, Err, refl, sym, ap, ◌∙◌, subst, arith}
use Rattle.std.specs.Prelude.{◌||◌, IfOk}
use Rattle.std.specs.Option.{ForSome}
use Rattle.zy_base.specs.Machine.{Rules}
use Rattle.zy_base.specs.declared.cause.Cause.{Cause}
use Rattle.zy_base.specs.declared.cause.Cause.TheVariants as causes
use Rattle.zy_base.specs.declared.counts.Counts.{Counts}
use Rattle.zy_base.specs.declared.ids.View.{View}
use Rattle.zy_base.specs.declared.step.Answer.{Answer}
use Rattle.zy_base.specs.declared.step.Answer.TheVariants.{Taken, Refused}
use Rattle.zy_parts.specs.declared.signed.Signed.{Signed}
use Rattle.zy_parts.specs.declared.reports.New.{New}
use Rattle.zy_vframes.specs.declared.frame.ViewCert.{ViewCert}
use Rattle.zy_change.specs.declared.kept.Accepted.{Accepted}
use Rattle.zy_change.specs.declared.kept.Chosen.{Chosen}
use Rattle.zy_change.specs.declared.owed.Owed.{Owed}
use Rattle.zy_change.specs.Owing.{Onward, Pens, accept as accept_owed, accepting, adopt_if, leaving_alone, nothing, onward, refused as refused_owed}
use Rattle.zy_change.specs.Views.{certificate_of, is_accepted, leads}
use Rattle.zy_change.specs.Confirming.{is_over, new_view_judged, new_view_owes}
use Rattle.zy_change.specs.Judging.{chosen_in}
use Rattle.zy_table.specs.State.{State, signs_left, own_view}
use Rattle.zy_table.specs.Deeds.{Going, Outcome, begin, refused}
use Rattle.zy_table.specs.Leaving.{accept, leave_alone, report_of}
use Rattle.zy_table.specs.Beginning.{arrive, certify, finished}
use Rattle.zy_table.specs.Confirming.{new_view}
use Rattle.zy_replica_state.specs.Ready.{IsReady}
use Rattle.zy_replica_views.proofs.FollowLemmas.{for_none}
use Rattle.zy_replica_views.specs.Follows.{IsSigner}
use Rattle.zy_replica_views.specs.Ending.{IsNewOwed, confirmed, finished_by}
use Rattle.zy_replica_views.proofs.ConfirmLemmas.{new_begins, new_ends, new_far, new_refused}
use Rattle.zy_replica_views.specs.declared.judging.Ending.{Ending}
use Rattle.zy_replica_views.specs.Entering.{Accepts, CanEnd, CanEnter, EndsAs, ending_as, ending_of, view_after}
use Rattle.zy_replica_views.proofs.CarriedLemmas.{takes_up}
use Rattle.zy_replica_views.proofs.EndLemmas.{AreEntries, IsEnd, ends_as, ends_can, ends_refused}
use Rattle.zy_replica_views.proofs.EntryLemmas.{accepted_enters, not_over}
use Rattle.zy_replica_views.proofs.StepLemmas.{signs_within}

-- the signatures don't matter
abbrev pub no_pens : Pens
no_pens = record { change = λ c. []; new = λ n. []; began = λ b. [] }

abbrev left_for : Bool → View → Option View
left_for b view = if b then Some view else None

abbrev one_if : Bool → ℕ
one_if b = if b then 1 else 0

-- ---- what it owes

module _ {S : Type 0} (s : State S) (new : Signed New) where
  abbrev view : View
  view = new.stmt.view

  abbrev above : Bool
  above = nat_lt (own_view s) view.0

  pub record IsArrival (owed : Owed) : Type 0 where
    pub leave : (chosen : Chosen) → owed.confirm ≡ Some chosen → owed.leave ≡ left_for above view
    pub signs : (chosen : Chosen) → owed.confirm ≡ Some chosen → owed.signs ≡ one_if above + 1
    pub enters : ForSome owed.adopt (CanEnter s owed.leave)

  abbrev Arrives : Owed → Type 0
  Arrives owed = Accepts s new owed → IsArrival owed

  none_owed : (cause : Cause) → Arrives (refused_owed cause)
  none_owed cause accepts = record { leave = λ chosen is. absurd cc; signs = λ chosen is. absurd cc; enters = for_none _ }

  -- its view is the own one then
  in_view : own_view s ≤ view.0 → (b : Bool) → view_after s (left_for b view) ≤ view.0
  in_view up true = omega arith
  in_view up false = up

  module _ (chosen : Chosen) (up : own_view s ≤ view.0) where
    abbrev a : Accepted
    a = record { new = new; chosen = chosen }

    with_cert : (w : Onward) (b : Bool) → above ≡ b → w.owed ≡ record nothing { leave = left_for b view; confirm = Some chosen; signs = one_if b + 1 } → (cert : Option ViewCert) → Arrives (adopt_if a cert w.owed)
    with_cert w b is owes None accepts =
        record {
          leave = λ other some. ap (λ (o : Owed). o.leave) owes ∙ ap (λ (c : Bool). left_for c view) (sym is);
          signs = λ other some. ap (λ (o : Owed). o.signs) owes ∙ ap (λ (c : Bool). one_if c + 1) (sym is);
          enters = subst (λ (o : Owed). ForSome o.adopt (CanEnter s o.leave)) (sym owes) (for_none _);
        }
    with_cert w b is owes (Some cert) accepts =
        let leave : w.owed.leave ≡ left_for b view = ap (λ (o : Owed). o.leave) owes in
        let some : w.owed.confirm ≡ Some chosen = ap (λ (o : Owed). o.confirm) owes in
        record {
          leave = λ other it. leave ∙ ap (λ (c : Bool). left_for c view) (sym is);
          signs = λ other it. ap (λ (o : Owed). o.signs) owes ∙ ap (λ (c : Bool). one_if c + 1) (sym is);
          enters = accepted_enters s w.owed.leave a (accepts chosen some) (subst (λ (l : Option View). view_after s l ≤ view.0) (sym leave) (in_view up b));
        }

    by_arriving : (b : Bool) → above ≡ b → Arrives (accept_owed a no_pens (if b then leaving_alone view (report_of s) no_pens (onward s.views) else onward s.views))
    unfolding accept_owed
    by_arriving true is = let w = accepting a no_pens (leaving_alone view (report_of s) no_pens (onward s.views)) in with_cert w true is refl (certificate_of w.views a)
    by_arriving false is = let w = accepting a no_pens (onward s.views) in with_cert w false is refl (certificate_of w.views a)

  judged : own_view s ≤ view.0 → (chosen : Result Chosen Cause) → Arrives (new_view_judged chosen s.views new (report_of s) no_pens)
  judged up (Err cause) = none_owed cause
  judged up (Ok chosen) = by_arriving chosen up above refl

  all_owed : Arrives (new_view_owes s.views new (report_of s) no_pens)
  all_owed = by (is_over s.views view.0) refl (is_accepted view.0 s.views.accepted || leads s.views view.0)
    where
      by : (over : Bool) → is_over s.views view.0 ≡ over → (again : Bool)
          → Arrives (if over then refused_owed causes.OldView else (if again then refused_owed causes.Repeat else new_view_judged (chosen_in s.views.counts s.views.interval new.stmt) s.views new (report_of s) no_pens))
      by true over again = none_owed causes.OldView
      by false over true = none_owed causes.Repeat
      by false over false = judged (not_over s.views view.0 over) (chosen_in s.views.counts s.views.interval new.stmt)

  pub arrives : (owed : Owed) → IsNewOwed s new owed → Accepts s new owed → IsArrival owed
  arrives owed is = subst Arrives (sym (is (report_of s) no_pens)) all_owed

-- ---- it is confirmed

one_cause : {A : Type 0} (one two : Cause) (r : Result A Cause) → r ≡ Err one → r ≡ Err two → one ≡ two
one_cause one two r first second = let same = sym first ∙ second in cc

module _ {S : Type 0} (R : Rules S) (s : State S) (new : Signed New) (owed : Owed) (is : IsNewOwed s new owed) (accepts : Accepts s new owed) where
  arrival : IsArrival s new owed
  arrival = arrives s new owed is accepts

  pub new_enters : ForSome owed.adopt (CanEnter s owed.leave)
  new_enters = arrival.enters

  module _ (chosen : Chosen) (some : owed.confirm ≡ Some chosen) where
    same_fetches : (confirmed R s new chosen).state.fetches ≡ s.fetches
    unfolding accept leave_alone
    same_fetches = by (nat_lt (own_view s) new.stmt.view.0)
      where
        by : (b : Bool) → (accept R (record { new = new; chosen = chosen }) (if b then leave_alone R new.stmt.view (begin s) else begin s)).state.fetches ≡ s.fetches
        by true = refl
        by false = refl

    view_then : own_view (confirmed R s new chosen).state ≡ view_after s owed.leave
    unfolding accept leave_alone
    view_then = by (nat_lt (own_view s) new.stmt.view.0) ∙ ap (view_after s) (sym (arrival.leave chosen some))
      where
        by : (b : Bool) → own_view (accept R (record { new = new; chosen = chosen }) (if b then leave_alone R new.stmt.view (begin s) else begin s)).state ≡ view_after s (left_for b new.stmt.view)
        by true = refl
        by false = refl

    -- the signatures that it takes
    pub confirm_left : (e : Ending) → ending_of R s 0 owed ≡ Ok e → one_if (nat_lt (own_view s) new.stmt.view.0) + 1 ≤ signs_left s
    confirm_left e same = let all = signs_within R s (0 + owed.signs) owed e same in let signs = arrival.signs chosen some in omega (arith, all, signs)

    module _ (ready : IsReady s) (signer : IsSigner s) where
      new_end : IsEnd s owed.signs owed (confirmed R s new chosen)
      new_end =
          record {
            far = new_far R s new owed chosen signer is some;
            fetches = same_fetches;
            view = view_then;
            enters = new_enters;
          }

      new_entries : AreEntries owed (confirmed R s new chosen)
      new_entries = λ a adopts. (
          let begun = (new_begins R s new owed chosen signer is some).adopts a adopts in
          record { cert = begun.cert; view = begun.view; accepted = begun.accepted; enough = begun.enough; provider = begun.provider; given = begun.given; told = begun.told }
          )

      no_more : ending_of R s 0 owed ≡ ending_as R s owed.signs owed owed.answer
      no_more = let e : 0 + owed.signs ≡ owed.signs = omega arith in ap (λ (n : ℕ). ending_as R s n owed owed.answer) e

      new_row : finished R s (new_view R s new) ≡ finished_by R s owed.signs owed (confirmed R s new chosen) (certify R Taken (confirmed R s new chosen))
      new_row = new_ends R s new owed chosen signer is some (λ a adopts. takes_up R s ready owed.leave a (new_enters a adopts))

      refused_some : (cause : Cause) → ending_of R s 0 owed ≡ Err cause → finished R s (new_view R s new) ≡ refused cause s
      refused_some cause same = new_row ∙ ends_refused R s owed.signs owed (confirmed R s new chosen) new_end (certify R Taken (confirmed R s new chosen)) cause (sym no_more ∙ same)

      pub new_can : (e : Ending) → ending_of R s 0 owed ≡ Ok e → CanEnd R e (confirmed R s new chosen)
      new_can e same = ends_can R s owed.signs owed (confirmed R s new chosen) new_end new_entries e (sym no_more ∙ same)

      pub new_comes : (e : Ending) → ending_of R s 0 owed ≡ Ok e → (m : Outcome S) → EndsAs R owed.answer e (confirmed R s new chosen) m → m ≡ finished R s (new_view R s new)
      new_comes e same m does = ends_as R s owed.signs owed (confirmed R s new chosen) new_end new_entries e (sym no_more ∙ same) m does ∙ sym new_row

  -- ---- where nothing is confirmed, it is refused

  module _ (signer : IsSigner s) where
    ends_refused_as : (answer : Answer) (cause : Cause) → owed.answer ≡ answer → answer ≡ Refused cause → ending_of R s 0 owed ≡ Err cause
    ends_refused_as answer cause one two = ap (ending_as R s (0 + owed.signs) owed) (one ∙ two)

    pub confirms_some : owed.confirm ≡ None → (e : Ending) → ending_of R s 0 owed ≡ Ok e → ⊥
    confirms_some none e same = let (cause, answer, row) = new_refused R s new owed signer is none in let clash = sym (ends_refused_as owed.answer cause refl answer) ∙ same in cc

    refused_none : owed.confirm ≡ None → (cause : Cause) → ending_of R s 0 owed ≡ Err cause → finished R s (new_view R s new) ≡ refused cause s
    refused_none none cause same =
        let (own, answer, row) = new_refused R s new owed signer is none in
        row ∙ ap (λ (c : Cause). refused c s) (one_cause own cause (ending_of R s 0 owed) (ends_refused_as owed.answer own refl answer) same)

    pub new_refusal : IsReady s → (cause : Cause) → ending_of R s 0 owed ≡ Err cause → finished R s (new_view R s new) ≡ refused cause s
    new_refusal ready cause same = by owed.confirm refl
      where
        by : (confirm : Option Chosen) → owed.confirm ≡ confirm → finished R s (new_view R s new) ≡ refused cause s
        by None none = refused_none none cause same
        by (Some chosen) some = refused_some chosen some ready signer cause same

-- ---- what the code tells, as it is told for all signatures

pub for_all : {A E T P : Type 0} (Q : A → T → P → Type 0) (r : Result A E) → ((t : T) (p : P) → IfOk r (λ a. Q a t p)) → IfOk r (λ a. (t : T) (p : P) → Q a t p)
for_all Q (Ok a) is = is
for_all Q (Err e) is = tt

-- ---- a view is left for

module _ {S : Type 0} (R : Rules S) (view : View) (g : Going S) where
  pub arrived_left : one_if (nat_lt (own_view g.state) view.0) + 1 ≤ signs_left g.state → 1 ≤ signs_left (arrive R view g).state
  unfolding leave_alone
  arrived_left = by (nat_lt (own_view g.state) view.0)
    where
      by : (b : Bool) → one_if b + 1 ≤ signs_left g.state → 1 ≤ signs_left (if b then leave_alone R view g else g).state
      by true few = omega (arith, few)
      by false few = few

  pub arrived_group : (P : Counts → ℕ → Type 0) → P g.state.views.counts g.state.views.interval → P (arrive R view g).state.views.counts (arrive R view g).state.views.interval
  unfolding leave_alone
  arrived_group P holds = by (nat_lt (own_view g.state) view.0)
    where
      by : (b : Bool) → P (if b then leave_alone R view g else g).state.views.counts (if b then leave_alone R view g else g).state.views.interval
      by true = holds
      by false = holds
