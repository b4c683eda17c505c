-- When a step in which a view may begin is lawful.
use Rattle.std.specs.Prelude.{◌≡◌, ℕ, Bool, true, false, if◌then◌else◌, List, [], Option, Some, None, unwrap_or}
use Rattle.std.specs.List.{AllByRecursion}
use Rattle.zy_base.specs.Machine.{Rules}
use Rattle.zy_base.specs.declared.ids.Party.TheVariants.{Replica}
use Rattle.zy_base.specs.declared.step.Answer.{Answer}
use Rattle.zy_base.specs.declared.step.Answer.TheVariants.{Refused}
use Rattle.zy_chain.specs.declared.entry.Entry.{Entry}
use Rattle.zy_change.specs.Owing.{provider_in}
use Rattle.zy_change.specs.declared.kept.Waiting.{Waiting}
use Rattle.zy_law.specs.Steps.{AllMay}
use Rattle.zy_law.specs.World.{World}
use Rattle.zy_law_normal.specs.Acts.{acts_of, history_after, world_after}
use Rattle.zy_law_normal.specs.Tied.{Agrees, IsGained}
use Rattle.zy_parts.specs.declared.reports.Change.{Change}
use Rattle.zy_parts.specs.declared.signed.Signed.{Signed}
use Rattle.zy_table.specs.Deeds.{Outcome, gains_in}
use Rattle.zy_table.specs.State.{State}
use Rattle.zy_law_views.specs.Adopted.{AreWorldTexts}
use Rattle.zy_law_views.specs.Texts.{Texts, list_in}
use Rattle.zy_law_views.specs.Tied.{IsTied}
use Rattle.zy_law_views.specs.Cores.{core_of}
use Rattle.zy_law_views.specs.Work.{IsAtWork}

-- The law speaks of this machine's replies and snapshots, and these are the world's texts: what each correct history leads to
-- is kept.
pub record IsWorldOf {S : Type 0} (R : Rules S) (interval : ℕ) (w : World) (texts : Texts) : Type 0 where
  pub agrees : Agrees R w
  pub kept : AreWorldTexts R interval w texts

-- What it says and where it stands next is allowed, one after another. It is tied to the world after that, with the history
-- that it has then, and signs as itself still; what that leads to is kept too. Each
-- entry that it gains may run, on the head before it. Where it could work on before, it can then.
pub record IsLawfulStep {S : Type 0} (R : Rules S) (interval : ℕ) (texts : Texts) (w : World) (r : ℕ) (s : State S) (history : List Entry) (outcome : Outcome S) : Type 0 where
  pub may : AllMay w r (acts_of w r s history outcome)
  pub tied : IsTied R interval (world_after w r s history outcome) r (core_of outcome.state) (history_after history outcome.deeds.acts)
  pub signer : outcome.state.sealer.me ≡ Replica outcome.state.views.me
  pub interval_is : outcome.state.views.interval ≡ interval
  pub world : IsWorldOf R interval (world_after w r s history outcome) texts
  pub gained : AllByRecursion (IsGained w) (gains_in outcome.deeds.acts)
  pub works : IsAtWork interval w r s → IsAtWork interval (world_after w r s history outcome) r outcome.state

-- ---- a snapshot that comes

-- the list of a report's stable checkpoint, as it is read out of the kept texts
abbrev pub base_read : Texts → Option (Signed Change) → List Entry
base_read texts None = []
base_read texts (Some p) = unwrap_or (list_in texts p.stmt.told.stable_place.0 p.stmt.told.stable_head) []

-- of the report that gives the choice of the certificate that waits
abbrev pub list_awaited : Texts → Option Waiting → List Entry
list_awaited texts None = []
list_awaited texts (Some x) = base_read texts (provider_in (record { new = x.cert.new; chosen = x.chosen }))

abbrev pub is_refusal : Answer → Bool
is_refusal (Refused cause) = true
is_refusal answer = false

-- Where a snapshot comes and isn't refused, the replica goes on from the list for which that stands.
abbrev pub history_from : {S : Type 0} → Texts → State S → List Entry → Outcome S → List Entry
history_from texts s history outcome = if is_refusal outcome.answer then history else list_awaited texts s.views.waiting
