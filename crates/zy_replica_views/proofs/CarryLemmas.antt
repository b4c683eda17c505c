-- What is carried out one thing after another is what is owed.
use Rattle.std.proofs.Common.{◌≡◌, ℕ, length, ◌≤◌, ◌<◌, ◌^◌, true, not, All, Option, Some, None, refl, sym, ap, ◌∙◌, subst, arith}
use Rattle.std.proofs.lemmas.Bool.{and_parts, leb-true}
use Rattle.zy_base.specs.Machine.{Rules}
use Rattle.zy_base.specs.declared.ids.Party.TheVariants.{Replica}
use Rattle.zy_base.specs.declared.ids.ReplicaId.{ReplicaId}
use Rattle.zy_base.specs.declared.ids.View.{View}
use Rattle.zy_replica_state.specs.Ready.{IsReady}
use Rattle.zy_base.specs.declared.step.Stood.{Stood}
use Rattle.zy_parts.specs.Numbers as numbers
use Rattle.zy_parts.specs.Reports.{new_fields, IsBeganInRange, IsNewInRange}
use Rattle.zy_parts.specs.Signing.{IsSignedInRange}
use Rattle.zy_parts.specs.declared.signed.Signed.{Signed}
use Rattle.zy_parts.specs.declared.reports.Began.{Began}
use Rattle.zy_parts.specs.declared.reports.Change.{Change}
use Rattle.zy_parts.specs.declared.reports.New.{New}
use Rattle.zy_seal.specs.Sealing.{SealerState, sealed_by}
use Rattle.zy_vframes.specs.declared.frame.ViewFrame.{ViewFrame}
use Rattle.zy_vframes.specs.declared.frame.ViewFrame.TheVariants as frames
use Rattle.zy_change.specs.declared.kept.Accepted.{Accepted}
use Rattle.zy_change.specs.declared.kept.Chosen.{Chosen}
use Rattle.zy_change.specs.Fit.{IsAccepted, IsFit, IsGiven, IsOwnBegan}
use Rattle.zy_change.specs.Owing.{is_gathering, new_of}
use Rattle.zy_change.specs.Views.{Views, began_for, changes_for, is_accepted, leads, with_new}
use Rattle.zy_table.proofs.SentLemmas.{new-sent}
use Rattle.zy_table.specs.Sending.{CanBeSent}
use Rattle.zy_table.specs.declared.deeds.AnyFrame.TheVariants as any
use Rattle.zy_table.specs.declared.deeds.To.TheVariants.{All as ToAll}
use Rattle.zy_table.specs.declared.deeds.Body.{Body}
use Rattle.zy_table.specs.declared.deeds.Body.TheVariants as bodies
use Rattle.zy_table.specs.declared.deeds.Act.TheVariants.{Says}
use Rattle.zy_table.specs.State.{State, signs_left, spent, stood_of}
use Rattle.zy_table.specs.Deeds.{Going, act, send_view}
use Rattle.zy_table.specs.Leaving.{left_with, sealed_change, sealed_new, leave_alone, give_new, accept}
use Rattle.zy_replica_views.specs.Carrying.{leave_if, sealed_began, give}
use Rattle.zy_replica_views.specs.Follows.{IsChosenIn, signs_for}

-- ---- what is said goes to all

pub told_all : {S : Type 0} (R : Rules S) (g after : Going S) (frame : ViewFrame) (said body : Body) (stood : Stood) → after ≡ act (Says (record { body = said; stood = stood })) g → said ≡ body → stood ≡ stood_of R g.state
    → send_view ToAll frame after ≡ send_view ToAll frame (act (Says (record { body = body; stood = stood_of R g.state })) g)
told_all R g after frame said body stood is same stands = rw (is, same, stands) refl

-- ---- a view is left

pub left_is : {S : Type 0} (R : Rules S) (view : View) (g : Going S) (s : State S) (change : Signed Change) → s ≡ spent (left_with view (sealed_change g.state view) g.state) → change ≡ sealed_change g.state view
    → send_view ToAll (frames.ViewChange change) (act (Says (record { body = bodies.Change change.stmt; stood = stood_of R s })) (record g { state = s })) ≡ leave_alone R view g
unfolding leave_alone
left_is R view g s change state said = rw (state, said) refl

-- ---- a new view is signed

-- there are enough reports for it
pub enough_there : (v w : Views) (view : ℕ) → w ≡ v → is_gathering v view ≡ true → w.counts.change ≤ length (changes_for view w.changes)
enough_there v w view same gathers =
    let led = and_parts (leads v view) _ gathers in
    let fresh = and_parts (not (is_accepted view v.accepted)) _ led.1 in
    subst (λ (u : Views). u.counts.change ≤ length (changes_for view u.changes)) (sym same) (leb-true _ _ fresh.1)

pub reports_given : (v w : Views) (view : View) (new : New) (signed : Signed New) (sealer : SealerState) → w ≡ v → signed ≡ sealed_by numbers.new new_fields sealer new → All (IsGiven w.counts w.interval view) new.changes
    → All (IsGiven v.counts v.interval view) signed.stmt.changes
reports_given v w view new signed sealer same is given =
    subst (λ (s : Signed New). All (IsGiven v.counts v.interval view) s.stmt.changes) (sym is) (subst (λ (u : Views). All (IsGiven u.counts u.interval view) new.changes) same given)

pub new_sends : (v w : Views) (view : View) (new : New) (signed : Signed New) (sealer : SealerState) → IsFit v → is_gathering v view.0 ≡ true → w ≡ v → new ≡ new_of w view → IsNewInRange new
    → signed ≡ sealed_by numbers.new new_fields sealer new → length signed.sig ≤ 8192 → CanBeSent (any.View (frames.NewView signed))
new_sends v w view new signed sealer fit gathers same new_is range is short =
    let stmt : signed.stmt ≡ new_of v view = ap (λ (s : Signed New). s.stmt) is ∙ new_is ∙ ap (λ (u : Views). new_of u view) same in
    let here : IsNewInRange (new_of v view) = subst IsNewInRange (new_is ∙ ap (λ (u : Views). new_of u view) same) range in
    new-sent v view fit signed here.0.0 here.0.1 gathers stmt short

-- ---- a new view is kept

-- what a replica signs for its choice is its own confirmation
pub own_began : {S : Type 0} (s : State S) (a : Accepted) (signed : Signed Began) → IsReady s → IsAccepted s.views.counts s.views.interval a → a.chosen.place.0 < 2 ^ 62 → signed ≡ sealed_began s a → length signed.sig ≤ 8192 → IsOwnBegan s.views.me a signed
own_began s a signed ready accepted place is short =
    let stmt : signed.stmt ≡ began_for a.new.stmt.view a.chosen = ap (λ (b : Signed Began). b.stmt) is in
    record {
      by = ap (λ (b : Signed Began). b.by) is ∙ ready.signer ∙ ap (λ (me : ReplicaId). Replica me) (sym ready.views.me);
      stmt = stmt;
      in_range = (subst IsBeganInRange (sym stmt) (accepted.in_range.0.0, (omega arith, place)), short);
    }

pub kept_same : {S : Type 0} (core sealed : State S) (a : Accepted) (own began : Signed Began) → sealed ≡ spent core → own ≡ began
    → record sealed { views = with_new a own sealed.views } ≡ record (spent core) { views = with_new a began core.views }
kept_same core sealed a own began is same = rw (is, same) refl

-- ---- it is given and confirmed

module _ {S : Type 0} (R : Rules S) (g after : Going S) (view : View) (chosen : Chosen) (new : Signed New) (is : after ≡ give_new R (sealed_new g.state view) g) (new_is : new ≡ sealed_new g.state view) where
  pub given_left : 2 ≤ signs_left g.state → 1 ≤ signs_left after.state
  unfolding give_new
  given_left left = rw is (omega arith)

  given_views : after.state.views ≡ g.state.views
  unfolding give_new
  given_views = ap (λ (x : Going S). x.state.views) is

  pub given_accepted : IsSignedInRange IsNewInRange new → All (IsGiven g.state.views.counts g.state.views.interval view) new.stmt.changes → IsChosenIn g view chosen
      → IsAccepted after.state.views.counts after.state.views.interval (record { new = new; chosen = chosen })
  given_accepted range given choice =
      subst (λ (v : Views). IsAccepted v.counts v.interval (record { new = new; chosen = chosen })) (sym given_views)
      (record {
        in_range = range;
        reports = subst (λ (w : View). All (IsGiven g.state.views.counts g.state.views.interval w) new.stmt.changes) (ap (λ (n : Signed New). n.stmt.view) (sym new_is)) given;
        chosen = rw new_is choice;
      })

  pub given_all : accept R (record { new = new; chosen = chosen }) after ≡ give R view chosen g
  unfolding give
  given_all = rw (is, new_is) refl

-- ---- all of it

pub fewer_signs : (leave gather : Option View) (n : ℕ) → signs_for leave gather ≤ n → signs_for leave None ≤ n
fewer_signs None None n few = few
fewer_signs None (Some view) n few = omega arith
fewer_signs (Some view) None n few = few
fewer_signs (Some view) (Some other) n few = omega arith

left_signs : {S : Type 0} (R : Rules S) (g : Going S) (leave gather : Option View) → signs_for leave gather ≤ signs_left g.state → signs_for None gather ≤ signs_left (leave_if R leave g).state
unfolding leave_alone
left_signs R g None gather few = few
left_signs R g (Some view) None few = omega arith
left_signs R g (Some view) (Some other) few = omega arith

pub rest_left : {S : Type 0} (R : Rules S) (g left : Going S) (leave gather : Option View) → left ≡ leave_if R leave g → signs_for leave gather ≤ signs_left g.state → signs_for None gather ≤ signs_left left.state
rest_left {S = S} R g left leave gather is few = subst (λ (x : Going S). signs_for None gather ≤ signs_left x.state) (sym is) (left_signs R g leave gather few)
