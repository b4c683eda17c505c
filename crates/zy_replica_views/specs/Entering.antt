-- How a step ends, judged before anything is done: what it owes is refused, or is carried out, and then nothing begins, or
-- a view does with its choice, or its certificate waits.
use Rattle.std.specs.Prelude.{◌≡◌, ℕ, ◌+◌, ◌≤◌, nat_le, nat_lt, is_some, slice_get, IsSome, Bool, true, false, if◌then◌else◌, Option, Some, None, Result, Ok, Err}
use Rattle.std.specs.List.{list_any}
use Rattle.std.specs.Option.{ForSome}
use Rattle.zy_base.specs.Machine.{Rules}
use Rattle.zy_base.specs.declared.cause.Cause.{Cause}
use Rattle.zy_base.specs.declared.cause.Cause.TheVariants as causes
use Rattle.zy_base.specs.declared.ids.View.{View}
use Rattle.zy_base.specs.declared.step.Answer.{Answer}
use Rattle.zy_base.specs.declared.step.Answer.TheVariants.{Taken, Held, Refused}
use Rattle.zy_chain.specs.Stretch.{head_in}
use Rattle.zy_parts.specs.declared.signed.Signed.{Signed}
use Rattle.zy_parts.specs.declared.reports.Change.{Change}
use Rattle.zy_parts.specs.declared.reports.New.{New}
use Rattle.zy_vframes.specs.declared.frame.ViewCert.{ViewCert}
use Rattle.zy_evidence.specs.Reading.{stretch_of}
use Rattle.zy_change.specs.declared.kept.Chosen.{Chosen}
use Rattle.zy_change.specs.declared.owed.Adoption.{Adoption}
use Rattle.zy_change.specs.declared.owed.Owed.{Owed}
use Rattle.zy_change.specs.Ahead.{IsReport}
use Rattle.zy_change.specs.Fit.{IsAccepted}
use Rattle.zy_change.specs.Views.{certificate}
use Rattle.zy_table.specs.declared.deeds.Verdict.{Verdict}
use Rattle.zy_table.specs.declared.deeds.Verdict.TheVariants as verdicts
use Rattle.zy_table.specs.State.{State, signs_left, own_view}
use Rattle.zy_table.specs.Deeds.{Going, Outcome, ends}
use Rattle.zy_table.specs.Adopting.{verdict_of}
use Rattle.zy_table.specs.Leaving.{Attempt, goes}
use Rattle.zy_table.specs.Beginning.{certify, confirms, fetch_said, wanted_of}
use Rattle.zy_replica_state.specs.Ready.{IsReady}
use Rattle.zy_replica_views.specs.Follows.{Follows, IsSigner}
use Rattle.zy_replica_views.specs.Ending.{IsSoFar, verdict_on}
use Rattle.zy_replica_views.specs.Signing.{signs_by, signs_taken}
use Rattle.zy_replica_views.specs.declared.judging.Ending.{Ending}
use Rattle.zy_replica_views.specs.declared.judging.Ending.TheVariants.{Rests, TakesUp, Waits}

-- ---- what is judged

-- the view that a replica has once it left for this one, if for any
abbrev pub view_after : {S : Type 0} → State S → Option View → ℕ
view_after s None = own_view s
view_after s (Some view) = view.0

-- how many statements a wait signs then
abbrev pub signs_after : {S : Type 0} → State S → Option View → Adoption → ℕ
signs_after s leave a =
    (if nat_lt (view_after s leave) a.view.0 then 1 else 0) + (if is_some (fetch_said s (wanted_of a.told)) then 0 else 1)

-- enough signatures have to be left for all that the step signs
abbrev pub unless_spent : ℕ → ℕ → Ending → Result Ending Cause
unless_spent signs left ending = if nat_le signs left then Ok ending else Err causes.KeySpent

abbrev pub ending_by : {S : Type 0} → State S → ℕ → Option View → Adoption → Verdict → Result Ending Cause
ending_by s signs leave a (verdicts.Refuse cause) = Err cause
ending_by s signs leave a verdicts.Take = unless_spent (signs + signs_taken s a.told a.chosen.place) (signs_left s) TakesUp
ending_by s signs leave a verdicts.Wait = unless_spent (signs + signs_after s leave a) (signs_left s) Waits

abbrev pub ending_with : {S : Type 0} → Rules S → State S → ℕ → Option View → Option Adoption → Result Ending Cause
ending_with R s signs leave None = unless_spent signs (signs_left s) Rests
ending_with R s signs leave (Some a) = ending_by s signs leave a (verdict_on R s a)

abbrev pub ending_as : {S : Type 0} → Rules S → State S → ℕ → Owed → Answer → Result Ending Cause
ending_as R s signs owed (Refused cause) = Err cause
ending_as R s signs owed Taken = ending_with R s signs owed.leave owed.adopt
ending_as R s signs owed Held = ending_with R s signs owed.leave owed.adopt

-- how a step that owes this ends, where so many statements are signed besides; or why it is refused
abbrev pub ending_of : {S : Type 0} → Rules S → State S → ℕ → Owed → Result Ending Cause
ending_of R s more owed = ending_as R s (more + owed.signs) owed owed.answer

-- What is to be adopted can be judged: its report breaks no rule in a change for its view, and has the choice; and the
-- view isn't below the one that the replica has then.
pub record CanEnter {S : Type 0} (s : State S) (leave : Option View) (a : Adoption) : Type 0 where
  pub report : IsReport s.views a.view a.told
  pub chosen : head_in (stretch_of a.told) a.chosen.place.0 ≡ Some a.chosen.head
  pub later : view_after s leave ≤ a.view.0

-- what a step confirms is a choice out of the reports of this new view
abbrev pub Accepts : {S : Type 0} → State S → Signed New → Owed → Type 0
Accepts s new owed = (chosen : Chosen) → owed.confirm ≡ Some chosen → IsAccepted s.views.counts s.views.interval (record { new = new; chosen = chosen })

-- ---- what is known as it is carried out

-- A step that began at a state, signed so many statements so far, and comes to an attempt, owes this.
pub record IsStep {S : Type 0} (R : Rules S) (s : State S) (more : ℕ) (attempt : Attempt S) (owed : Owed) (g : Going S) : Type 0 where
  pub signer : IsSigner s
  pub ready : IsReady s
  pub so_far : IsSoFar s more g
  pub fetches : g.state.fetches ≡ s.fetches
  pub view : own_view g.state ≡ own_view s
  pub unconfirmed : list_any confirms g.deeds.acts ≡ false
  pub follows : Follows R attempt owed g
  pub enters : ForSome owed.adopt (CanEnter s owed.leave)

-- and was judged to end so
pub record IsJudged {S : Type 0} (R : Rules S) (owed : Owed) (ending : Ending) (g : Going S) : Type 0 where
  pub before : State S
  pub more : ℕ
  pub attempt : Attempt S
  pub step : IsStep R before more attempt owed g
  pub ends : ending_of R before more owed ≡ Ok ending

-- ---- the end itself

abbrev pub is_waiting : Ending → Bool
is_waiting Rests = false
is_waiting TakesUp = false
is_waiting Waits = true

-- The new view that was confirmed can begin, or its certificate wait: enough confirmations of it are kept, its choice was
-- judged so, and enough signatures are left for what that signs.
pub record CanCertify {S : Type 0} (R : Rules S) (waits : Bool) (g : Going S) : Type 0 where
  pub enough : IsSome (certificate g.state.views)
  pub later : (cert : ViewCert) → certificate g.state.views ≡ Some cert → own_view g.state ≤ cert.new.stmt.view.0
  pub judged : (cert : ViewCert) (chosen : Chosen) (provider : Signed Change) → g.state.views.accepted ≡ Some (record { new = cert.new; chosen = chosen }) → slice_get cert.new.stmt.changes chosen.provider ≡ Some provider
      → verdict_of R g.state.kept g.state.board.stable provider.stmt.told chosen.place chosen.head ≡ (if waits then verdicts.Wait else verdicts.Take)
  pub left : (cert : ViewCert) (chosen : Chosen) (provider : Signed Change) → g.state.views.accepted ≡ Some (record { new = cert.new; chosen = chosen }) → slice_get cert.new.stmt.changes chosen.provider ≡ Some provider
      → signs_by g.state cert.new.stmt.view provider.stmt.told chosen.place waits ≤ signs_left g.state

abbrev pub CanEnd : {S : Type 0} → Rules S → Ending → Going S → Type 0
CanEnd R Rests g = Unit {0}
CanEnd R TakesUp g = CanCertify R false g
CanEnd R Waits g = CanCertify R true g

-- what it comes to
abbrev pub EndsAs : {S : Type 0} → Rules S → Answer → Ending → Going S → Outcome S → Type 0
EndsAs R answer Rests g m = m ≡ ends answer g
EndsAs R answer TakesUp g m = certify R m.answer g ≡ goes m.answer (record { state = m.state; deeds = m.deeds })
EndsAs R answer Waits g m = certify R m.answer g ≡ goes m.answer (record { state = m.state; deeds = m.deeds })
