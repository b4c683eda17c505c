-- That what is owed is what the answer table says.
use Rattle.std.specs.Prelude.{◌≡◌, ℕ, ◌+◌, ◌^◌, ◌<◌, ◌≤◌, true, false, Option, Some, None, slice_get}
use Rattle.std.specs.List.{list_any}
use Rattle.std.specs.Option.{ForSome}
use Rattle.zy_base.specs.Machine.{Rules}
use Rattle.zy_base.specs.declared.ids.Party.TheVariants.{Replica}
use Rattle.zy_base.specs.declared.ids.View.{View}
use Rattle.zy_base.specs.declared.step.Answer.TheVariants.{Taken}
use Rattle.zy_seal.specs.Sealing.{SealerState, signatures_by}
use Rattle.zy_parts.specs.declared.signed.Signed.{Signed}
use Rattle.zy_parts.specs.declared.reports.Change.{Change}
use Rattle.zy_choose.specs.declared.choice.Choice.TheVariants as choices
use Rattle.zy_change.specs.declared.kept.Chosen.{Chosen}
use Rattle.zy_change.specs.declared.owed.Adoption.{Adoption}
use Rattle.zy_change.specs.declared.owed.Owed.{Owed}
use Rattle.zy_change.specs.Views.{certificate}
use Rattle.zy_vframes.specs.declared.frame.ViewCert.{ViewCert}
use Rattle.zy_parts.specs.declared.statements.Hate.{Hate}
use Rattle.zy_change.specs.Owing.{Pens, leaving_owes, hate_counted, hate_owes, change_owes, is_gathering, choice_in}
use Rattle.zy_table.specs.State.{State, own_view}
use Rattle.zy_table.specs.Deeds.{Going}
use Rattle.zy_table.specs.Leaving.{Attempt, report_of}
use Rattle.zy_table.specs.Beginning.{begun, certify, confirms}
use Rattle.zy_replica_views.specs.Carrying.{leave_if, carried, attempted}

-- with so many signatures spent
abbrev pub spent_many : ℕ → SealerState → SealerState
spent_many count sealer = record sealer { key = record sealer.key { next = sealer.key.next + count } }

-- how many statements that signs: the report, and of a new view the reports and the confirmation
abbrev pub signs_for : Option View → Option View → ℕ
signs_for None None = 0
signs_for (Some leave) None = 1
signs_for None (Some gather) = 2
signs_for (Some leave) (Some gather) = 3

-- what is chosen out of the reports that are kept for a view
abbrev pub IsChosenIn : {S : Type 0} → Going S → View → Chosen → Type 0
IsChosenIn g view chosen = choice_in g.state.views view.0 ≡ choices.Chosen chosen.provider chosen.place chosen.head

-- What is owed can be done: the view to leave for is one above the own, the reports to be given are there and enough, the
-- choice is the one out of them, and the count is right.
pub record CanCarry {S : Type 0} (R : Rules S) (owed : Owed) (g : Going S) : Type 0 where
  pub above : ForSome owed.leave (λ view. own_view g.state < view.0)
  pub below : ForSome owed.leave (λ view. view.0 < 2 ^ 62)
  pub gathers : ForSome owed.gather (λ view. is_gathering (leave_if R owed.leave g).state.views view.0 ≡ true)
  pub chosen : ForSome owed.gather (λ view. ForSome owed.confirm (IsChosenIn (leave_if R owed.leave g) view))
  pub signs : signs_for owed.leave owed.gather ≡ owed.signs

-- The view begins at the end of the step: its certificate is of the new view that was confirmed, with the choice and the
-- report that are told.
pub record IsBegun {S : Type 0} (R : Rules S) (adoption : Adoption) (end : Going S) (attempt : Attempt S) : Type 0 where
  pub cert : ViewCert
  pub view : cert.new.stmt.view ≡ adoption.view
  pub accepted : end.state.views.accepted ≡ Some (record { new = cert.new; chosen = adoption.chosen })
  pub enough : certificate end.state.views ≡ Some cert
  pub provider : Signed Change
  pub given : slice_get cert.new.stmt.changes adoption.chosen.provider ≡ Some provider
  pub told : provider.stmt.told ≡ adoption.told
  pub same : begun R attempt ≡ certify R Taken end

-- Where nothing is told to be adopted, no view begins at the end of the step; else this one does.
pub record Begins {S : Type 0} (R : Rules S) (adopt : Option Adoption) (end : Going S) (attempt : Attempt S) : Type 0 where
  pub rests : adopt ≡ None → begun R attempt ≡ attempt
  pub adopts : ForSome adopt (λ adoption. IsBegun R adoption end attempt)

-- The step as the answer table has it is what is owed carried out, and spends as many leaves as are told; and the view that
-- begins at its end is the one that is told.
pub record Follows {S : Type 0} (R : Rules S) (attempt : Attempt S) (owed : Owed) (g : Going S) : Type 0 where
  pub same : attempt ≡ attempted R owed g
  pub spends : (carried R owed g).state.sealer ≡ spent_many owed.signs g.state.sealer
  pub can : CanCarry R owed g
  pub begins : list_any confirms g.deeds.acts ≡ false → Begins R owed.adopt (carried R owed g) attempt

-- ---- what is told, whatever the signatures will be

abbrev pub IsLeaveOwed : {S : Type 0} → State S → View → Owed → Type 0
IsLeaveOwed s view owed = (pens : Pens) → owed ≡ leaving_owes s.views view (report_of s) pens

abbrev pub IsCountedOwed : {S : Type 0} → State S → Owed → Type 0
IsCountedOwed s owed = (pens : Pens) → owed ≡ hate_counted s.views (report_of s) pens

abbrev pub IsHateOwed : {S : Type 0} → State S → Signed Hate → Owed → Type 0
IsHateOwed s vote owed = (pens : Pens) → owed ≡ hate_owes s.views vote (report_of s) pens

abbrev pub IsChangeOwed : {S : Type 0} → State S → Signed Change → Owed → Type 0
IsChangeOwed s vote owed = (pens : Pens) → owed ≡ change_owes s.views vote (report_of s) pens

-- ---- what holds of every replica

abbrev pub SignsAsItself : {S : Type 0} → State S → Type 0
SignsAsItself s = s.sealer.me ≡ Replica s.views.me

-- it signs as itself, by a signature that it has left or the one behind the last
pub record IsSigner {S : Type 0} (s : State S) : Type 0 where
  pub by : SignsAsItself s
  pub within : s.sealer.key.next ≤ signatures_by s.sealer.key.height
