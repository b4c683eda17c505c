-- What the crates below promise of the steps of a replica.
use Rattle.std.proofs.Common.{◌≡◌, ℕ, true, List, ◌<◌, ◌≤◌, ◌^◌, Err}
use Rattle.std.specs.List.{AllByRecursion}
use Rattle.zy_base.specs.Machine.{Rules}
use Rattle.zy_base.specs.declared.counts.Counts.{Counts}
use Rattle.zy_base.specs.declared.cause.Cause.{Cause}
use Rattle.zy_base.specs.declared.ids.Party.{Party}
use Rattle.zy_base.specs.declared.ids.Party.TheVariants.{Replica}
use Rattle.zy_base.specs.declared.ids.Place.{Place}
use Rattle.zy_base.specs.declared.ids.ReplicaId.{ReplicaId}
use Rattle.zy_base.specs.declared.step.Event.{Event}
use Rattle.zy_law_views.specs.Steps.{IsLawfulStep, IsWorldOf}
use Rattle.zy_chain.specs.declared.entry.Entry.{Entry}
use Rattle.zy_law.specs.World.{World}
use Rattle.zy_law_normal.specs.Acts.{statement_by}
use Rattle.zy_law_normal.specs.Tied.{IsGained}
use Rattle.zy_law_steps.specs.Gains.{AreGainsKept}
use Rattle.zy_law_steps.specs.Whole.{IsEventHonest, history_of}
use Rattle.zy_seal.specs.Keys.{Keys}
use Rattle.zy_seal.specs.Sealing.{SealerState}
use Rattle.zy_law_steps.specs.Spelled.{FitAll, FitsBody, IsSpelled}
use Rattle.zy_table.specs.Beginning.{begun}
use Rattle.zy_table.specs.Deeds.{gains_in, text_by}
use Rattle.zy_table.specs.Fetching.{state_transfer}
use Rattle.zy_table.specs.State.{State, start_of}
use Rattle.zy_table.specs.Whole.{whole_step}
use Rattle.zy_table.specs.declared.deeds.Body.{Body}
use Rattle.zy_law_views.specs.Texts.{IsKept, Texts}
use Rattle.zy_law_views.specs.Told.{statement_in}
use Rattle.zy_law_views.specs.Rows.{IsReady, blames}
use Rattle.zy_law_views.specs.Wanted.{IsUnwanted}
use Rattle.zy_law_views.specs.Work.{IsAtWork}

-- each statement that can be spelled is read back out of its text
abbrev pub ReadsBack : Type 0
ReadsBack = (r : ℕ) (by : Party) (body : Body) → FitsBody body → statement_in r (text_by by body) ≡ statement_by r body

-- a correct replica that can work on meets an honest event
pub record MayStep {S : Type 0} (R : Rules S) (interval r : ℕ) (texts : Texts) (w : World) (s : State S) (history : List Entry) (event : Event) : Type 0 where
  pub ready : IsReady R interval w r s history
  pub world : IsWorldOf R interval w texts
  pub works : IsAtWork interval w r s
  pub honest : IsEventHonest w texts s event

pub record StepLaws {S : Type 0} (R : Rules S) : Type 0 where
  -- what a step gains may run; and where that is kept, the step is lawful, and what is said and kept can be spelled
  pub gained : (interval r : ℕ) (texts : Texts) (w : World) (s : State S) (history : List Entry) (event : Event) → MayStep R interval r texts w s history event → AllByRecursion (IsGained w) (gains_in (whole_step R s event).deeds.acts)
  pub lawful : (interval r : ℕ) (texts : Texts) (w : World) (s : State S) (history : List Entry) (event : Event) → MayStep R interval r texts w s history event → AreGainsKept w texts (whole_step R s event).deeds.acts
      → IsLawfulStep R interval texts w r s (history_of texts s history event (whole_step R s event)) (whole_step R s event)
  pub spelled : (interval r : ℕ) (texts : Texts) (w : World) (s : State S) (history : List Entry) (event : Event) → MayStep R interval r texts w s history event → AreGainsKept w texts (whole_step R s event).deeds.acts
      → IsSpelled s → FitAll (whole_step R s event).deeds.acts × IsSpelled (whole_step R s event).state
  pub back : ReadsBack
  -- where a snapshot that comes is refused, what blames others is only that these bytes aren't those for which a certificate waits
  pub state_blames : (interval r : ℕ) (texts : Texts) (w : World) (s : State S) (history : List Entry) (place : Place) (bytes : List ℕ) (cause : Cause) → IsReady R interval w r s history → IsWorldOf R interval w texts → IsKept texts bytes
      → begun R (state_transfer R s place bytes) ≡ Err cause → blames cause ≡ true → IsUnwanted s place bytes cause
  pub same_keys : (s : State S) (event : Event) → (whole_step R s event).state.keys ≡ s.keys
  pub spelled_first : (interval : ℕ) (me : ReplicaId) (counts : Counts) (keys : Keys) (sealer : SealerState) → interval ≤ 32 → me.0 < 2 ^ 8 → sealer.me ≡ Replica me → IsSpelled (start_of R interval me counts keys sealer)
