-- Inner forms, which only the code cites: what is to be adopted can be, what the own hate owes, and how a step that asks goes on.
use Rattle.std.specs.Prelude.{◌≡◌, ℕ, Bool, true, false, Option, Some, None}
use Rattle.std.specs.Option.{ForSome}
use Rattle.zy_base.specs.declared.step.Answer.{Answer}
use Rattle.zy_base.specs.declared.step.Answer.TheVariants.{Taken, Held, Refused}
use Rattle.zy_change.specs.declared.owed.Owed.{Owed}
use Rattle.zy_base.specs.declared.ids.Party.TheVariants.{Replica}
use Rattle.zy_change.specs.Owing.{next_view, nothing}
use Rattle.zy_change.specs.Views.{is_hated_by}
use Rattle.zy_parts.specs.declared.signed.Signed.{Signed}
use Rattle.zy_parts.specs.declared.statements.Hate.{Hate}
use Rattle.zy_table.specs.State.{State}
use Rattle.zy_table.specs.Deeds.{Outcome, ends}
use Rattle.zy_table.specs.Hates.{ask_for_hole, hate_now}
use Rattle.zy_replica_views.specs.Entering.{CanEnter}
use Rattle.zy_replica_views.specs.Follows.{IsHateOwed}
use Rattle.zy_replica_views.specs.declared.judging.Ending.{Ending}
use Rattle.zy_replica_views.specs.declared.judging.Ending.TheVariants.{Rests, TakesUp, Waits}

-- what is owed to be adopted can be judged
abbrev pub CanAll : {S : Type 0} → State S → Owed → Type 0
CanAll s owed = ForSome owed.adopt (CanEnter s owed.leave)

-- and is of the next view, for which the replica leaves
abbrev pub LeavesToEnter : {S : Type 0} → State S → Owed → Type 0
LeavesToEnter s owed = ForSome owed.adopt (λ a. owed.leave ≡ Some (next_view s.views))

-- the missing orders are asked for, unless the step is refused
abbrev pub asked_as : {S : Type 0} → Answer → Outcome S → Outcome S
asked_as (Refused cause) o = o
asked_as Taken o = ends Taken (ask_for_hole o.state.views.mode o.state.hole (record { state = o.state; deeds = o.deeds }))
asked_as Held o = ends Held (ask_for_hole o.state.views.mode o.state.hole (record { state = o.state; deeds = o.deeds }))

abbrev pub asked : {S : Type 0} → Outcome S → Outcome S
asked o = asked_as o.answer o

-- unless a view begins at its end, for which the own one was left
abbrev pub asked_if : {S : Type 0} → Ending → Outcome S → Outcome S
asked_if Rests o = asked o
asked_if TakesUp o = o
asked_if Waits o = o

-- how many statements are signed for what may have been said
abbrev pub signs_of : Option (Signed Hate) → ℕ
signs_of None = 1
signs_of (Some said) = 0

-- what the own hate owes, whatever its signature: nothing, where it is counted already
abbrev pub OwesOwn : {S : Type 0} → State S → Bool → Owed → Type 0
OwesOwn s true owed = owed ≡ nothing
OwesOwn s false owed = (vote : Signed Hate) → vote.by ≡ Replica s.me → vote.stmt ≡ hate_now s → IsHateOwed s vote owed

abbrev pub IsOwnOwed : {S : Type 0} → State S → Owed → Type 0
IsOwnOwed s owed = OwesOwn s (is_hated_by s.views (Replica s.me)) owed
