-- What a step comes to with the view that begins at its end: judged by what is kept before it, and counted before anything
-- is signed.
use Rattle.std.specs.Prelude.{◌≡◌, ℕ, ◌+◌, nat_le, if◌then◌else◌, Option, Some, None, Ok, Err}
use Rattle.zy_base.specs.Machine.{Rules}
use Rattle.zy_base.specs.declared.cause.Cause.TheVariants as causes
use Rattle.zy_base.specs.declared.step.Answer.{Answer}
use Rattle.zy_base.specs.declared.step.Answer.TheVariants.{Taken, Held, Refused}
use Rattle.zy_parts.specs.declared.reports.Told.{Told}
use Rattle.zy_parts.specs.declared.reports.Began.{Began}
use Rattle.zy_parts.specs.declared.reports.New.{New}
use Rattle.zy_parts.specs.declared.signed.Signed.{Signed}
use Rattle.zy_vframes.specs.declared.frame.ViewCert.{ViewCert}
use Rattle.zy_chain.specs.Stretch.{head_in}
use Rattle.zy_check.specs.Board.{stated}
use Rattle.zy_evidence.specs.Reading.{stretch_of}
use Rattle.zy_exec.specs.Replay.{Point}
use Rattle.zy_change.specs.declared.kept.Chosen.{Chosen}
use Rattle.zy_change.specs.declared.owed.Adoption.{Adoption}
use Rattle.zy_change.specs.declared.owed.Owed.{Owed}
use Rattle.zy_change.specs.Owing.{Pens}
use Rattle.zy_change.specs.Confirming.{new_view_owes, began_owes, view_cert_owes}
use Rattle.zy_table.specs.declared.deeds.Verdict.{Verdict}
use Rattle.zy_table.specs.declared.deeds.Verdict.TheVariants as verdicts
use Rattle.zy_table.specs.State.{State, signs_left}
use Rattle.zy_table.specs.Deeds.{Going, Outcome, begin, refused, ends}
use Rattle.zy_table.specs.Adopting.{verdict_of}
use Rattle.zy_table.specs.Leaving.{Attempt, accept, goes}
use Rattle.zy_table.specs.Beginning.{arrive}
use Rattle.zy_replica_views.specs.Follows.{spent_many}
use Rattle.zy_replica_views.specs.Signing.{CanTake, signs_taken, signs_waiting}

-- ---- the end

-- what is told to be adopted, by what a replica keeps
abbrev pub verdict_on : {S : Type 0} → Rules S → State S → Adoption → Verdict
verdict_on R s a = verdict_of R s.kept s.board.stable a.told a.chosen.place a.chosen.head

-- a step whose signatures were counted
abbrev pub outcome_of : {S : Type 0} → State S → Attempt S → Outcome S
outcome_of s (Err cause) = refused cause s
outcome_of s (Ok end) = ends end.0 end.1

-- that signs so many statements
abbrev pub counted : {S : Type 0} → State S → ℕ → Attempt S → Outcome S
counted s signs attempt = if nat_le signs (signs_left s) then outcome_of s attempt else refused causes.KeySpent s

-- A step that began at a state, has come to its end but for the adoption, and signs so many statements until then. With
-- the adoption it comes to this.
abbrev pub ending_as : {S : Type 0} → State S → ℕ → Adoption → Verdict → Going S → Attempt S → Outcome S
ending_as s signs a (verdicts.Refuse cause) end adopting = refused cause s
ending_as s signs a verdicts.Take end adopting = counted s (signs + signs_taken s a.told a.chosen.place) adopting
ending_as s signs a verdicts.Wait end adopting = counted s (signs + signs_waiting end.state a.view a.told) adopting

abbrev pub ending : {S : Type 0} → Rules S → State S → ℕ → Option Adoption → Answer → Going S → Attempt S → Outcome S
ending R s signs None answer end adopting = counted s signs (goes answer end)
ending R s signs (Some a) answer end adopting = ending_as s signs a (verdict_on R s a) end adopting

abbrev pub finished_as : {S : Type 0} → Rules S → State S → ℕ → Owed → Answer → Going S → Attempt S → Outcome S
finished_as R s signs owed (Refused cause) end adopting = refused cause s
finished_as R s signs owed Taken end adopting = ending R s signs owed.adopt Taken end adopting
finished_as R s signs owed Held end adopting = ending R s signs owed.adopt Held end adopting

-- what the whole step comes to, where it owes this
abbrev pub finished_by : {S : Type 0} → Rules S → State S → ℕ → Owed → Going S → Attempt S → Outcome S
finished_by R s signs owed end adopting = finished_as R s signs owed owed.answer end adopting

-- ---- what has to hold

-- It has signed so many statements so far, and neither its history nor its stable checkpoint has changed.
pub record IsSoFar {S : Type 0} (s : State S) (signs : ℕ) (g : Going S) : Type 0 where
  pub sealer : g.state.sealer ≡ spent_many signs s.sealer
  pub kept : g.state.kept ≡ s.kept
  pub stable : g.state.board.stable ≡ s.board.stable

-- what is told can be taken up, where the verdict is that it is
abbrev pub TakesUp : {S : Type 0} → Rules S → State S → Adoption → Type 0
TakesUp R s a = verdict_on R s a ≡ verdicts.Take → CanTake s a.told a.chosen.place

-- ---- what the frames of a new view owe, whatever the signatures will be

abbrev pub IsNewOwed : {S : Type 0} → State S → Signed New → Owed → Type 0
IsNewOwed s new owed = (told : Told) (pens : Pens) → owed ≡ new_view_owes s.views new told pens

abbrev pub IsBeganOwed : {S : Type 0} → State S → Signed Began → Owed → Type 0
IsBeganOwed s vote owed = owed ≡ began_owes s.views vote

abbrev pub IsCertOwed : {S : Type 0} → State S → ViewCert → Owed → Type 0
IsCertOwed s cert owed = owed ≡ view_cert_owes s.views cert

-- a new view is confirmed, once its view is left for
abbrev pub confirmed : {S : Type 0} → Rules S → State S → Signed New → Chosen → Going S
confirmed R s new chosen = accept R (record { new = new; chosen = chosen }) (arrive R new.stmt.view (begin s))

-- ---- a snapshot comes

-- What is shown is the stable checkpoint of the report, by its proof, and the report has the choice.
pub record IsStableShown {S : Type 0} (s : State S) (told : Told) (point : Point S) (chosen : Chosen) : Type 0 where
  pub place : point.place ≡ told.stable_place.0
  pub head : point.head ≡ told.stable_head
  pub proof_place : (stated s.board.stable told.checks).place ≡ told.stable_place
  pub proof_head : (stated s.board.stable told.checks).head ≡ told.stable_head
  pub chosen_there : head_in (stretch_of told) chosen.place.0 ≡ Some chosen.head
