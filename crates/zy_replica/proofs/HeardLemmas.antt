-- What is kept of another's report.
use Rattle.std.proofs.Common.{◌≡◌, ◌+◌, ℕ, Bool, true, false, nat_lt, [], Option, Some, None, refl, sym, subst}
use Rattle.std.specs.Prelude.{if◌then◌else◌, Ok, Err}
use Rattle.zy_base.specs.Machine.{Rules}
use Rattle.zy_base.specs.declared.cause.Cause.{Cause}
use Rattle.zy_base.specs.declared.cause.Cause.TheVariants as causes
use Rattle.zy_base.specs.declared.step.Answer.{Answer}
use Rattle.zy_base.specs.declared.step.Answer.TheVariants.{Refused}
use Rattle.zy_base.specs.declared.ids.Party.{Party}
use Rattle.zy_base.specs.declared.ids.Party.TheVariants.{Replica, Client}
use Rattle.zy_base.specs.declared.ids.ReplicaId.{ReplicaId}
use Rattle.zy_parts.specs.Reports.{IsChangeInRange}
use Rattle.zy_parts.specs.Signing.{IsSignedInRange}
use Rattle.zy_parts.specs.declared.reports.Change.{Change}
use Rattle.zy_parts.specs.declared.reports.Told.{Told}
use Rattle.zy_parts.specs.declared.signed.Signed.{Signed}
use Rattle.zy_evidence.specs.Reading.{IsReplica, number_of_party}
use Rattle.zy_evidence.specs.Rules.{number_of, rule_of}
use Rattle.zy_evidence.specs.declared.rule.Rule.{Rule}
use Rattle.zy_change.specs.declared.owed.Owed.{Owed}
use Rattle.zy_change.specs.Fit.{IsKeptChange}
use Rattle.zy_change.specs.Owing.{Pens}
use Rattle.zy_change.specs.Owing as owing
use Rattle.zy_change.specs.Views.{Views, own_view, has_begun, is_from, slot_of}
use Rattle.zy_table.specs.State.{State}
use Rattle.zy_replica_views.specs.Entering.{ending_as, ending_of}
use Rattle.zy_replica_views.specs.declared.judging.Ending.{Ending}

-- ---- one that is kept breaks no rule

-- the step isn't refused by what it owes itself
abbrev pub IsGoingOn : Owed → Type 0
IsGoingOn owed = (cause : Cause) → owed.answer ≡ Refused cause → ⊥

pub goes_on : {S : Type 0} (R : Rules S) (s : State S) (owed : Owed) (more : ℕ) (e : Ending) → ending_of R s more owed ≡ Ok e → IsGoingOn owed
goes_on R s owed more e same = λ cause is. (let never : Err cause ≡ Ok e = subst (λ (answer : Answer). ending_as R s (more + owed.signs) owed answer ≡ Ok e) is same in absurd cc)

module _ (v : Views) (vote : Signed Change) (told : Told) (pens : Pens) (replica : IsReplica vote.by) (range : IsSignedInRange IsChangeInRange vote) where
  abbrev Keeps : Owed → Type 0
  Keeps owed = IsGoingOn owed → owed.send ≡ None → IsKeptChange v.counts v.interval (number_of_party vote.by) vote

  itself : (by : Party) → IsReplica by → by ≡ Replica (record { 0 = number_of_party by })
  itself (Replica id) is = refl
  itself (Client id) is = absurd is

  judged_keeps : (rule : Option Rule) → rule_of v.counts v.interval vote.stmt ≡ rule → Keeps (owing.change_judged rule v vote told pens)
  judged_keeps (Some rule) broken done alone = absurd (done (causes.BadReport (number_of rule)) refl)
  judged_keeps None is done alone = record { by = itself vote.by replica; in_range = range; keeps_rules = is }

  abbrev later_owed : Bool → Owed
  later_owed b =
      if b then owing.refused causes.Repeat else owing.change_judged (rule_of v.counts v.interval vote.stmt) v vote told pens

  later_keeps : (b : Bool) → Keeps (later_owed b)
  later_keeps true done alone = absurd (done causes.Repeat refl)
  later_keeps false done alone = judged_keeps (rule_of v.counts v.interval vote.stmt) refl done alone

  abbrev begun_owed : Bool → Owed
  begun_owed b = if b then owing.sends_to vote.by else later_owed (is_from vote.stmt.view.0 (slot_of vote.by v.changes))

  begun_keeps : (b : Bool) → Keeps (begun_owed b)
  begun_keeps true done alone = absurd cc
  begun_keeps false done alone = later_keeps (is_from vote.stmt.view.0 (slot_of vote.by v.changes)) done alone

  earlier_keeps : (b : Bool) → Keeps (if b then owing.refused causes.OldView else begun_owed (has_begun v.mode vote.stmt.view.0))
  earlier_keeps true done alone = absurd (done causes.OldView refl)
  earlier_keeps false done alone = begun_keeps (has_begun v.mode vote.stmt.view.0) done alone

  pub change_keeps : (owed : Owed) → owed ≡ owing.change_owes v vote told pens → Keeps owed
  change_keeps owed is = subst Keeps (sym is) (earlier_keeps (nat_lt vote.stmt.view.0 (own_view v)))

-- the signatures don't matter
abbrev pub no_pens : Pens
no_pens = record { change = λ c. []; new = λ n. []; began = λ b. [] }
