-- What a replica does of what a step of a view change owes, in the order in which it is owed.
use Rattle.std.specs.Prelude.{ℕ, nat_le, if◌then◌else◌, Option, Some, None, Err}
use Rattle.zy_base.specs.Machine.{Rules}
use Rattle.zy_base.specs.declared.cause.Cause.TheVariants as causes
use Rattle.zy_base.specs.declared.ids.Party.TheVariants.{Replica}
use Rattle.zy_base.specs.declared.ids.ReplicaId.{ReplicaId}
use Rattle.zy_base.specs.declared.ids.View.{View}
use Rattle.zy_base.specs.declared.step.Answer.{Answer}
use Rattle.zy_base.specs.declared.step.Answer.TheVariants.{Taken, Held, Refused}
use Rattle.zy_parts.specs.declared.signed.Signed.{Signed}
use Rattle.zy_parts.specs.Numbers as numbers
use Rattle.zy_parts.specs.Reports.{began_fields}
use Rattle.zy_parts.specs.declared.reports.Began.{Began}
use Rattle.zy_parts.specs.declared.reports.Change.{Change}
use Rattle.zy_seal.specs.Sealing.{sealed_by}
use Rattle.zy_change.specs.declared.kept.Accepted.{Accepted}
use Rattle.zy_change.specs.declared.kept.Chosen.{Chosen}
use Rattle.zy_change.specs.declared.owed.Owed.{Owed}
use Rattle.zy_change.specs.Views.{with_change, began_for}
use Rattle.zy_table.specs.State.{State, signs_left}
use Rattle.zy_table.specs.Deeds.{Going, Outcome, refused, ends}
use Rattle.zy_table.specs.Leaving.{Attempt, goes, leave_alone, accept, give_new, sealed_new}
use Rattle.zy_table.specs.Changes.{send_cert}

-- it leaves for this view
abbrev pub leave_if : {S : Type 0} → Rules S → Option View → Going S → Going S
leave_if R None g = g
leave_if R (Some view) g = leave_alone R view g

-- this replica's confirmation of the choice of a new view
abbrev pub sealed_began : {S : Type 0} → State S → Accepted → Signed Began
sealed_began s a = sealed_by numbers.began began_fields s.sealer (began_for a.new.stmt.view a.chosen)

-- the reports that are kept for a view are given, and this choice out of them is confirmed
unfoldable pub give : {S : Type 0} → Rules S → View → Chosen → Going S → Going S
give R view chosen g =
    let new = sealed_new g.state view in accept R (record { new = new; chosen = chosen }) (give_new R new g)

abbrev pub give_if : {S : Type 0} → Rules S → Option View → Option Chosen → Going S → Going S
give_if R None chosen g = g
give_if R (Some view) None g = g
give_if R (Some view) (Some chosen) g = give R view chosen g

-- the kept view certificate goes to this replica
abbrev pub send_if : {S : Type 0} → Option ReplicaId → Going S → Going S
send_if None g = g
send_if (Some id) g = send_cert (Replica id) g.state.views.view_cert g

-- all of it, but an adoption
abbrev pub carried : {S : Type 0} → Rules S → Owed → Going S → Going S
carried R owed g = send_if owed.send (give_if R owed.gather owed.confirm (leave_if R owed.leave g))

-- ---- what the step comes to

abbrev pub attempted_as : {S : Type 0} → Rules S → Answer → Owed → Going S → Attempt S
attempted_as R (Refused cause) owed g = Err cause
attempted_as R Taken owed g = goes Taken (carried R owed g)
attempted_as R Held owed g = goes Held (carried R owed g)

abbrev pub attempted : {S : Type 0} → Rules S → Owed → Going S → Attempt S
attempted R owed g = attempted_as R owed.answer owed g

-- where enough leaves are left for all that the step signs
abbrev pub ended : {S : Type 0} → Rules S → State S → ℕ → Answer → Owed → Going S → Outcome S
ended R s signs answer owed g =
    if nat_le signs (signs_left s) then ends answer (carried R owed g) else refused causes.KeySpent s

abbrev pub concluded_as : {S : Type 0} → Rules S → State S → ℕ → Answer → Owed → Going S → Outcome S
concluded_as R s signs (Refused cause) owed g = refused cause s
concluded_as R s signs Taken owed g = ended R s signs Taken owed g
concluded_as R s signs Held owed g = ended R s signs Held owed g

-- A step that began at a state, has come so far, owes this, and signs so many statements in all: nothing is signed before
-- the leaves are counted.
abbrev pub carried_out : {S : Type 0} → Rules S → State S → ℕ → Owed → Going S → Outcome S
carried_out R s signs owed g = concluded_as R s signs owed.answer owed g

-- a report is kept, unless its signer is only told that the view began
abbrev pub kept_unless : {S : Type 0} → Option ReplicaId → Signed Change → State S → State S
kept_unless None vote s = record s { views = with_change vote s.views }
kept_unless (Some id) vote s = s
