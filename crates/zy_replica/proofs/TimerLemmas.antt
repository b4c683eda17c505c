-- What a timer brings about: the step goes on, unless it is refused, and what was said goes out again.
use Rattle.std.proofs.Common.{◌≡◌, ◌+◌, ◌⊎◌, inl, inr, ℕ, List, [], Bool, true, false, Option, Some, None, refl, sym, ap, ◌∙◌, subst}
use Rattle.std.specs.Prelude.{Ok, Err, IfOk, nat_le, if◌then◌else◌, nat_lt, ◌^◌}
use Rattle.zy_base.specs.Machine.{Rules}
use Rattle.zy_base.specs.declared.cause.Cause.TheVariants as causes
use Rattle.zy_base.specs.declared.ids.Party.TheVariants.{Replica}
use Rattle.zy_base.specs.declared.ids.View.{View}
use Rattle.zy_base.specs.declared.step.Answer.{Answer}
use Rattle.zy_base.specs.declared.step.Answer.TheVariants.{Taken, Held, Refused}
use Rattle.zy_base.specs.declared.step.Mode.{Mode}
use Rattle.zy_base.specs.declared.step.Mode.TheVariants.{Active, Leaving}
use Rattle.zy_parts.specs.declared.signed.Signed.{Signed}
use Rattle.zy_parts.specs.declared.statements.Hole.{Hole}
use Rattle.zy_parts.specs.declared.reports.Change.{Change}
use Rattle.zy_vframes.specs.declared.frame.ViewFrame.TheVariants as frames
use Rattle.zy_choose.specs.declared.choice.Choice.{Choice}
use Rattle.zy_choose.specs.declared.choice.Choice.TheVariants as choices
use Rattle.zy_change.specs.Fit.{IsFit}
use Rattle.zy_change.specs.Owing.{choice_in, hated_by_many, is_gathering, next_view}
use Rattle.zy_change.specs.Views.{Views, is_hated_by, own_change}
use Rattle.zy_table.proofs.SentLemmas.{change-sent}
use Rattle.zy_table.specs.Sending.{CanBeSent}
use Rattle.zy_table.specs.declared.deeds.AnyFrame.TheVariants as any
use Rattle.zy_table.specs.State.{State}
use Rattle.zy_table.specs.Deeds.{Going, Outcome, begin, refused, ends}
use Rattle.zy_table.specs.Leaving.{Attempt, accept, collect, concluded, give_new, given, goes, is_overspent, leave, leave_alone, sealed_new}
use Rattle.zy_table.specs.Hates.{ask_for_hole, change_again, then_ask, count_own, hate_counted, hate_from, own_hate, say_hate, with_hate_of}
use Rattle.std.specs.List.{list_any}
use Rattle.zy_base.specs.declared.cause.Cause.{Cause}
use Rattle.zy_base.specs.declared.ids.ReplicaId.{ReplicaId}
use Rattle.zy_vframes.specs.declared.frame.ViewCert.{ViewCert}
use Rattle.zy_change.specs.declared.kept.Chosen.{Chosen}
use Rattle.zy_change.specs.declared.owed.Adoption.{Adoption}
use Rattle.zy_change.specs.declared.owed.Owed.{Owed}
use Rattle.zy_table.specs.declared.deeds.Act.{Act}
use Rattle.zy_table.specs.declared.deeds.Verdict.{Verdict}
use Rattle.zy_table.specs.declared.deeds.Verdict.TheVariants as verdicts
use Rattle.zy_table.specs.Beginning.{begun, confirms, finished}
use Rattle.zy_table.specs.Changes.{send_cert}
use Rattle.zy_replica_views.specs.Carrying.{attempted_as, carried, give, give_if, leave_if, send_if}
use Rattle.zy_replica_views.specs.Ending.{verdict_on}
use Rattle.zy_replica_views.specs.Entering.{IsStep, ending_as, ending_by, ending_of, ending_with, unless_spent}
use Rattle.zy_replica_views.specs.declared.judging.Ending.{Ending}
use Rattle.zy_replica_views.specs.declared.judging.Ending.TheVariants.{Rests, TakesUp, Waits}
use Rattle.zy_parts.specs.declared.statements.Hate.{Hate}
use Rattle.zy_replica_views.proofs.FollowLemmas.{quiet}
use Rattle.zy_replica.proofs.OwnHateLemmas.{again_is, counted_first, said_only}
use Rattle.zy_replica.specs.Judging.{IsOwnOwed, LeavesToEnter, OwesOwn, asked, asked_if}

-- ---- a hate of the own view is taken, or refused with the cause

-- a step that goes on is taken
abbrev Takes : {S : Type 0} → Attempt S → Type 0
Takes {S = S} attempt = IfOk attempt (λ (end : Answer × Going S). end.0 ≡ Taken)

module _ {S : Type 0} (R : Rules S) where
  given_takes : (view : View) (choice : Choice) (g : Going S) → Takes (given R view choice g)
  given_takes view (choices.AnchorClash first second) g = tt
  given_takes view (choices.Chosen provider place head) g = refl

  collect_takes : (view : View) (g : Going S) → Takes (collect R view g)
  collect_takes view g = by (is_gathering g.state.views view.0)
    where
      by : (b : Bool) → Takes (if b then given R view (choice_in g.state.views view.0) g else goes Taken g)
      by true = given_takes view (choice_in g.state.views view.0) g
      by false = refl

  leave_takes : (view : View) (g : Going S) → Takes (leave R view g)
  unfolding leave
  leave_takes view g = by (nat_lt view.0 (2 ^ 62))
    where
      by : (b : Bool) → Takes (if b then collect R view (leave_alone R view g) else Err causes.NewerView)
      by true = collect_takes view (leave_alone R view g)
      by false = tt

  counted_takes : (g : Going S) → Takes (hate_counted R g)
  counted_takes g = by (hated_by_many g.state.views)
    where
      by : (b : Bool) → Takes (if b then leave R (next_view g.state.views) g else goes Taken g)
      by true = leave_takes (next_view g.state.views) g
      by false = refl

-- ---- what is missing is asked for after it

same_state : {S : Type 0} (mode : Mode) (hole : Option (Signed Hole)) (g : Going S) → (ask_for_hole mode hole g).state ≡ g.state
same_state (Active view) (Some hole) g = refl
same_state (Active view) None g = refl
same_state (Leaving view) hole g = refl

module _ {S : Type 0} (s : State S) (g : Going S) where
  abbrev after : Going S
  after = ask_for_hole g.state.views.mode g.state.hole g

  asked_spent : (b : Bool) → asked (if b then refused causes.KeySpent s else ends Taken g) ≡ (if b then refused causes.KeySpent s else ends Taken after)
  asked_spent true = refl
  asked_spent false = refl

  taken_asked : asked (concluded s (goes Taken g)) ≡ concluded s (goes Taken after)
  taken_asked =
      asked_spent (is_overspent g.state.sealer)
      ∙ ap (λ (t : State S). if is_overspent t.sealer then refused causes.KeySpent s else ends Taken after) (sym (same_state g.state.views.mode g.state.hole g))

asked_after : {S : Type 0} (s : State S) (attempt : Attempt S) → Takes attempt → asked (concluded s attempt) ≡ concluded s (then_ask attempt)
asked_after s (Err cause) takes = refl
asked_after s (Ok (answer, g)) takes = rw takes (taken_asked s g)

-- ---- where nothing was confirmed, no view begins

pub asked_acts : {S : Type 0} (mode : Mode) (hole : Option (Signed Hole)) (g : Going S) → (ask_for_hole mode hole g).deeds.acts ≡ g.deeds.acts
asked_acts (Active view) (Some hole) g = refl
asked_acts (Active view) None g = refl
asked_acts (Leaving view) hole g = refl

pub only_asked : {S : Type 0} (R : Rules S) (s : State S) (g : Going S) → list_any confirms g.deeds.acts ≡ false → asked (finished R s (goes Taken g)) ≡ finished R s (then_ask (goes Taken g))
only_asked {S = S} R s g none =
    let after = ask_for_hole g.state.views.mode g.state.hole g in
    let too : list_any confirms after.deeds.acts ≡ false = ap (λ (acts : List Act). list_any confirms acts) (asked_acts g.state.views.mode g.state.hole g) ∙ none in
    ap (λ (a : Attempt S). asked (concluded s a)) (quiet R Taken g none) ∙ taken_asked s g ∙ ap (concluded s) (sym (quiet R Taken after too))

-- ---- where it left its view, nothing is asked for

asks_nothing : {S : Type 0} (view : View) (g : Going S) → g.state.views.mode ≡ Leaving view → ask_for_hole g.state.views.mode g.state.hole g ≡ g
asks_nothing view g is = ap (λ (m : Mode). ask_for_hole m g.state.hole g) is

module _ {S : Type 0} (R : Rules S) where
  given_same : (view own : View) (choice : Choice) (g : Going S) → g.state.views.mode ≡ Leaving own → then_ask (given R view choice g) ≡ given R view choice g
  unfolding accept give_new
  given_same view own (choices.AnchorClash first second) g is = refl
  given_same view own (choices.Chosen provider place head) g is =
      ap (goes Taken) (asks_nothing own (accept R (record { new = sealed_new g.state view; chosen = record { provider = provider; place = place; head = head } }) (give_new R (sealed_new g.state view) g)) is)

  collect_same : (view own : View) (g : Going S) → g.state.views.mode ≡ Leaving own → then_ask (collect R view g) ≡ collect R view g
  collect_same view own g is = by (is_gathering g.state.views view.0)
    where
      by : (b : Bool) → then_ask (if b then given R view (choice_in g.state.views view.0) g else goes Taken g) ≡ (if b then given R view (choice_in g.state.views view.0) g else goes Taken g)
      by true = given_same view own (choice_in g.state.views view.0) g is
      by false = ap (goes Taken) (asks_nothing own g is)

  leave_same : (view : View) (g : Going S) → then_ask (leave R view g) ≡ leave R view g
  unfolding leave leave_alone
  leave_same view g = by (nat_lt view.0 (2 ^ 62))
    where
      by : (b : Bool) → then_ask (if b then collect R view (leave_alone R view g) else Err causes.NewerView) ≡ (if b then collect R view (leave_alone R view g) else Err causes.NewerView)
      by true = collect_same view view (leave_alone R view g) refl
      by false = refl

  -- nor where it is leaving as it hates a view
  counted_same : (own : View) (g : Going S) → g.state.views.mode ≡ Leaving own → then_ask (hate_counted R g) ≡ hate_counted R g
  counted_same own g is = by (hated_by_many g.state.views)
    where
      by : (b : Bool) → then_ask (if b then leave R (next_view g.state.views) g else goes Taken g) ≡ (if b then leave R (next_view g.state.views) g else goes Taken g)
      by true = leave_same (next_view g.state.views) g
      by false = ap (goes Taken) (asks_nothing own g is)

  own_same : (own : View) (g : Going S) → g.state.views.mode ≡ Leaving own → then_ask (count_own R g) ≡ count_own R g
  own_same own g is = by (is_hated_by g.state.views (Replica g.state.me))
    where
      by : (b : Bool) → then_ask (if b then goes Taken g else hate_counted R (with_hate_of (Replica g.state.me) g)) ≡ (if b then goes Taken g else hate_counted R (with_hate_of (Replica g.state.me) g))
      by true = ap (goes Taken) (asks_nothing own g is)
      by false = counted_same own (with_hate_of (Replica g.state.me) g) is

  said_mode : (said : Option (Signed Hate)) (g : Going S) → (say_hate R said g).state.views.mode ≡ g.state.views.mode
  said_mode None g = refl
  said_mode (Some one) g = refl

  hate_same : (own : View) (g : Going S) → g.state.views.mode ≡ Leaving own → then_ask (hate_from R g) ≡ hate_from R g
  unfolding hate_from
  hate_same own g is = own_same own (say_hate R (own_hate g.state) g) (said_mode (own_hate g.state) g ∙ is)

  -- it has left its view, or nothing else is done
  abbrev IsCalm : Attempt S → Going S → Type 0
  IsCalm attempt g = (then_ask attempt ≡ attempt) ⊎ (attempt ≡ goes Taken g)

  counted_calm : (g : Going S) → IsCalm (hate_counted R g) g
  counted_calm g = by (hated_by_many g.state.views)
    where
      by : (b : Bool) → IsCalm (if b then leave R (next_view g.state.views) g else goes Taken g) g
      by true = inl (leave_same (next_view g.state.views) g)
      by false = inr refl

  -- ---- where a view is entered, the own one was left

  leave_mode : (view : View) (g : Going S) → (leave_if R (Some view) g).state.views.mode ≡ Leaving view
  unfolding leave_alone
  leave_mode view g = refl

  give_mode : (gather : Option View) (confirm : Option Chosen) (g : Going S) → (give_if R gather confirm g).state.views.mode ≡ g.state.views.mode
  unfolding give accept give_new
  give_mode None confirm g = refl
  give_mode (Some view) None g = refl
  give_mode (Some view) (Some chosen) g = refl

  send_mode : (send : Option ReplicaId) (g : Going S) → (send_if send g).state.views.mode ≡ g.state.views.mode
  send_mode None g = refl
  send_mode (Some id) g = by g.state.views.view_cert
    where
      by : (cert : Option ViewCert) → (send_cert (Replica id) cert g).state.views.mode ≡ g.state.views.mode
      by None = refl
      by (Some cert) = refl

  carried_mode : (owed : Owed) (view : View) (g : Going S) → owed.leave ≡ Some view → (carried R owed g).state.views.mode ≡ Leaving view
  carried_mode owed view g is =
      let left = leave_if R owed.leave g in
      let given = give_if R owed.gather owed.confirm left in
      send_mode owed.send given ∙ give_mode owed.gather owed.confirm left ∙ ap (λ (to : Option View). (leave_if R to g).state.views.mode) is ∙ leave_mode view g

  attempted_same : (answer : Answer) (owed : Owed) (view : View) (g : Going S) → owed.leave ≡ Some view → then_ask (attempted_as R answer owed g) ≡ attempted_as R answer owed g
  attempted_same (Refused cause) owed view g is = refl
  attempted_same Taken owed view g is = ap (goes Taken) (asks_nothing view (carried R owed g) (carried_mode owed view g is))
  attempted_same Held owed view g is = ap (goes Held) (asks_nothing view (carried R owed g) (carried_mode owed view g is))

-- ---- a hate of the own view that is counted for the first time

some_adopted : (o : Option Adoption) → (o ≡ None) ⊎ ((a : Adoption) × (o ≡ Some a))
some_adopted None = inl refl
some_adopted (Some a) = inr (a, refl)

spent_is : (signs has : ℕ) (x e : Ending) → unless_spent signs has x ≡ Ok e → x ≡ e
spent_is signs has x e = by (nat_le signs has)
  where
    by : (b : Bool) → (if b then Ok x else Err causes.KeySpent) ≡ Ok e → x ≡ e
    by true same = let is : x ≡ e = cc in is
    by false same = absurd cc

module _ {S : Type 0} (R : Rules S) (s : State S) (more : ℕ) (owed : Owed) (g : Going S) (step : IsStep R s more (hate_counted R g) owed g) (leaves : LeavesToEnter s owed) where
  abbrev attempt : Attempt S
  attempt = hate_counted R g

  -- a view is entered
  enters_same : (a : Adoption) → owed.adopt ≡ Some a → then_ask attempt ≡ attempt
  enters_same a some =
      ap (λ (x : Attempt S). then_ask x) step.follows.same ∙ attempted_same R owed.answer owed (next_view s.views) g (leaves a some) ∙ sym step.follows.same

  -- none is
  rests_asked : owed.adopt ≡ None → asked (finished R s attempt) ≡ finished R s (then_ask attempt)
  rests_asked none =
      let rests : begun R attempt ≡ attempt = (step.follows.begins step.unconfirmed).rests none in
      elim (counted_calm R g) [
        | inl same ↦ (ap (λ (x : Attempt S). asked (concluded s x)) rests ∙ asked_after s attempt (counted_takes R g) ∙ ap (concluded s) same ∙ ap (concluded s) (sym rests) ∙ ap (finished R s) (sym same))
        | inr only ↦ (ap (λ (x : Attempt S). asked (finished R s x)) only ∙ only_asked R s g step.unconfirmed ∙ ap (λ (x : Attempt S). finished R s (then_ask x)) (sym only))
      ]

  pub first_refused : (cause : Cause) → finished R s attempt ≡ refused cause s → finished R s (then_ask attempt) ≡ refused cause s
  first_refused cause is =
      elim (some_adopted owed.adopt) [
        | inl none ↦ (sym (rests_asked none) ∙ ap (λ (o : Outcome S). asked o) is)
        | inr (a, some) ↦ (ap (finished R s) (enters_same a some) ∙ is)
      ]

  -- ---- as it was judged to end

  abbrev Ended : Option Adoption → Ending → Type 0
  Ended None e = e ≡ Rests
  Ended (Some a) e = (o : Outcome S) → asked_if e o ≡ o

  by_verdict : (signs : ℕ) (a : Adoption) (verdict : Verdict) (e : Ending) → ending_by s signs owed.leave a verdict ≡ Ok e → (o : Outcome S) → asked_if e o ≡ o
  by_verdict signs a (verdicts.Refuse cause) e same o = absurd cc
  by_verdict signs a verdicts.Take e same o = subst (λ (x : Ending). asked_if x o ≡ o) (spent_is _ _ TakesUp e same) refl
  by_verdict signs a verdicts.Wait e same o = subst (λ (x : Ending). asked_if x o ≡ o) (spent_is _ _ Waits e same) refl

  by_adopt : (signs : ℕ) (adopt : Option Adoption) (e : Ending) → ending_with R s signs owed.leave adopt ≡ Ok e → Ended adopt e
  by_adopt signs None e same = sym (spent_is _ _ Rests e same)
  by_adopt signs (Some a) e same = by_verdict signs a (verdict_on R s a) e same

  by_answer : (signs : ℕ) (answer : Answer) (e : Ending) → ending_as R s signs owed answer ≡ Ok e → Ended owed.adopt e
  by_answer signs (Refused cause) e same = absurd cc
  by_answer signs Taken e same = by_adopt signs owed.adopt e same
  by_answer signs Held e same = by_adopt signs owed.adopt e same

  pub first_asked : (e : Ending) → ending_of R s more owed ≡ Ok e → asked_if e (finished R s attempt) ≡ finished R s (then_ask attempt)
  first_asked e same =
      let ended = by_answer (more + owed.signs) owed.answer e same in
      elim (some_adopted owed.adopt) [
        | inl none ↦ (
            let rests : e ≡ Rests = subst (λ (o : Option Adoption). Ended o e) none ended in
            ap (λ (x : Ending). asked_if x (finished R s attempt)) rests ∙ rests_asked none
            )
        | inr (a, some) ↦ (subst (λ (o : Option Adoption). Ended o e) some ended (finished R s attempt) ∙ ap (finished R s) (sym (enters_same a some)))
      ]

-- ---- the own hate

repeat_asked : {S : Type 0} (R : Rules S) (g : Going S) (said : Option (Signed Hate)) → g.deeds.acts ≡ [] → said ≡ own_hate g.state → is_hated_by g.state.views (Replica g.state.me) ≡ true
    → asked (finished R g.state (hate_from R g)) ≡ finished R g.state (then_ask (hate_from R g))
repeat_asked {S = S} R g said silent own old =
    let is = again_is R g said own old in
    ap (λ (a : Attempt S). asked (finished R g.state a)) is ∙ only_asked R g.state (say_hate R said g) (said_only R g silent said) ∙ ap (λ (a : Attempt S). finished R g.state (then_ask a)) (sym is)

module _ {S : Type 0} (R : Rules S) (g : Going S) (silent : g.deeds.acts ≡ []) (said : Option (Signed Hate)) (own : said ≡ own_hate g.state) where
  abbrev s : State S
  s = g.state

  abbrev counted : Going S
  counted = with_hate_of (Replica s.me) (say_hate R said g)

  own_first : is_hated_by s.views (Replica s.me) ≡ false → hate_from R g ≡ hate_counted R counted
  unfolding hate_from
  own_first new = ap (λ (o : Option (Signed Hate)). count_own R (say_hate R o g)) (sym own) ∙ counted_first R g said new

  module _ (more : ℕ) (owed : Owed) (step : IsStep R s more (hate_from R g) owed counted) (leaves : LeavesToEnter s owed) where
    first_step : is_hated_by s.views (Replica s.me) ≡ false → IsStep R s more (hate_counted R counted) owed counted
    first_step new = subst (λ (a : Attempt S). IsStep R s more a owed counted) (own_first new) step

    pub own_refused : (cause : Cause) → finished R s (hate_from R g) ≡ refused cause s → finished R s (then_ask (hate_from R g)) ≡ refused cause s
    own_refused cause is = by (is_hated_by s.views (Replica s.me)) refl
      where
        by : (b : Bool) → is_hated_by s.views (Replica s.me) ≡ b → finished R s (then_ask (hate_from R g)) ≡ refused cause s
        by true old = sym (repeat_asked R g said silent own old) ∙ ap (λ (o : Outcome S). asked o) is
        by false new =
            ap (λ (a : Attempt S). finished R s (then_ask a)) (own_first new)
            ∙ first_refused R s more owed counted (first_step new) leaves cause (ap (finished R s) (sym (own_first new)) ∙ is)

    pub own_asked : IsOwnOwed s owed → (e : Ending) → ending_of R s more owed ≡ Ok e → asked_if e (finished R s (hate_from R g)) ≡ finished R s (then_ask (hate_from R g))
    own_asked owes e same = by (is_hated_by s.views (Replica s.me)) refl owes
      where
        by : (b : Bool) → is_hated_by s.views (Replica s.me) ≡ b → OwesOwn s b owed → asked_if e (finished R s (hate_from R g)) ≡ finished R s (then_ask (hate_from R g))
        by true old none =
            let rests = spent_is _ _ Rests e (subst (λ (o : Owed). ending_of R s more o ≡ Ok e) none same) in
            ap (λ (x : Ending). asked_if x (finished R s (hate_from R g))) (sym rests) ∙ repeat_asked R g said silent own old
        by false new is =
            ap (λ (a : Attempt S). asked_if e (finished R s a)) (own_first new)
            ∙ first_asked R s more owed counted (first_step new) leaves e same
            ∙ ap (λ (a : Attempt S). finished R s (then_ask a)) (sym (own_first new))

-- unless it is refused
pub going_asked : {S : Type 0} (answer : Answer) (g : Going S) → (answer ≡ Taken) ⊎ (answer ≡ Held) → ends answer (ask_for_hole g.state.views.mode g.state.hole g) ≡ asked (ends answer g)
going_asked answer g (inl is) = rw is refl
going_asked answer g (inr is) = rw is refl

-- ---- what was said as it left is sent again

pub told_state : {S : Type 0} (change : Option (Signed Change)) (s : State S) → (change_again change (begin s)).state ≡ s
told_state None s = refl
told_state (Some one) s = refl

pub told_silent : {S : Type 0} (change : Option (Signed Change)) (s : State S) → (change_again change (begin s)).deeds.acts ≡ []
told_silent None s = refl
told_silent (Some one) s = refl

pub leaving_same : {S : Type 0} (R : Rules S) (change : Option (Signed Change)) (s : State S) (view : View) → s.views.mode ≡ Leaving view → then_ask (hate_from R (change_again change (begin s))) ≡ hate_from R (change_again change (begin s))
leaving_same {S = S} R change s view is = hate_same R view (change_again change (begin s)) (ap (λ (t : State S). t.views.mode) (told_state change s) ∙ is)

-- ---- the own report can be sent

pub own_sent : (v : Views) (c : Signed Change) → IsFit v → own_change v ≡ Some c → CanBeSent (any.View (frames.ViewChange c))
own_sent v c fit is = change-sent v.counts v.interval v.me.0 c (fit.kept v.me.0 c is)
