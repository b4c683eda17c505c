-- For what no correct replica is blamed: by two orders of its own, or as another one refuses an event.
use Rattle.std.specs.Prelude.{◌≡◌, ◌≢◌, ◌⊎◌, false, Option, Some, None}
use Rattle.std.specs.Option.{option_and_then}
use Rattle.zy_base.specs.Machine.{Rules}
use Rattle.zy_base.specs.declared.cause.Cause.{Cause}
use Rattle.zy_base.specs.declared.cause.Cause.TheVariants as causes
use Rattle.zy_base.specs.declared.ids.Party.TheVariants as parties
use Rattle.zy_base.specs.declared.ids.ReplicaId.{ReplicaId}
use Rattle.zy_cert.specs.Misbehaviour.{IsConflict}
use Rattle.zy_frames.specs.declared.frame.Frame.TheVariants as frames
use Rattle.zy_parts.specs.Numbers as numbers
use Rattle.zy_parts.specs.Signing.{part_of}
use Rattle.zy_parts.specs.Statements.{order_fields}
use Rattle.zy_parts.specs.declared.reports.Fetch.{Fetch}
use Rattle.zy_parts.specs.declared.signed.Signed.{Signed}
use Rattle.zy_parts.specs.declared.statements.Check.{Check}
use Rattle.zy_parts.specs.declared.statements.Order.{Order}
use Rattle.zy_seal.specs.Screening.{answer_to}
use Rattle.zy_seal.specs.declared.directory.SealAnswer.TheVariants as answers
use Rattle.zy_table.specs.Gathering.{own_at}
use Rattle.zy_table.specs.State.{State}
use Rattle.zy_table.specs.declared.deeds.AnyFrame.{AnyFrame}
use Rattle.zy_table.specs.declared.deeds.AnyFrame.TheVariants.{Plain, View}
use Rattle.zy_table.specs.declared.kept.OwnCheckpoint.{OwnCheckpoint}
use Rattle.zy_vframes.specs.declared.frame.ViewFrame.TheVariants as view_frames
use Rattle.zy_law_views.specs.Rows.{blames}
use Rattle.zy_law_views.specs.Wanted.{IsUnwanted}
use Rattle.zy_world_law.specs.Events.{happens}
use Rattle.zy_world_law.specs.Events.Happened.{Goes}
use Rattle.zy_world_law.specs.Honest.{is_forged}
use Rattle.zy_world_law.specs.Reading.{any_frame_in}
use Rattle.zy_world_law.specs.Setup.{keys_of}
use Rattle.zy_world_law.specs.World.{Replica, World, mail_at, replica_at}
use Rattle.zy_world_law.specs.declared.event.WorldEvent.{WorldEvent}
use Rattle.zy_world_law.specs.declared.event.WorldEvent.TheVariants as events
use Rattle.zy_world_law.specs.declared.note.Note.TheVariants as notes

-- ---- orders

-- An order that can be spelled, whose signature verifies under the key of this replica, and which isn't forged.
pub record IsOrderOf {S : Type 0} (w : World S) (id : ReplicaId) (order : Signed Order) : Type 0 where
  pub by : order.by ≡ parties.Replica id
  pub fits : order_fields.Fits order.stmt
  pub signed : answer_to (keys_of w.setup) (part_of numbers.order order_fields order) ≡ answers.Yes
  pub unforged : is_forged w (part_of numbers.order order_fields order) ≡ false

-- no two orders of a correct replica differ that are of one view and place
abbrev pub HasNoConflict : {S : Type 0} → World S → Type 0
HasNoConflict {S} w =
    (id : ReplicaId) (x : Replica S) (a b : Signed Order) → replica_at w id.0 ≡ Some x → IsOrderOf w id a → IsOrderOf w id b → IsConflict a b → ⊥

-- ---- refusals

-- A checkpoint tells another snapshot than the own one of its place, where both tell one head.
pub record IsOtherCheckpoint {S : Type 0} (R : Rules S) (s : State S) (check : Check) (cause : Cause) : Type 0 where
  pub own : OwnCheckpoint
  pub here : own_at R s check.place.0 ≡ Some own
  pub head : check.head ≡ own.check.head
  pub other : check.state ≢ own.check.state
  pub told : cause ≡ causes.WrongState own.check.state check.state

-- Another wants the snapshot of the own stable place, and names another one.
pub record IsOtherWish {S : Type 0} (s : State S) (wish : Fetch) (cause : Cause) : Type 0 where
  pub placed : wish.place.0 ≡ s.board.stable.place.0
  pub other : s.board.stable.state ≢ wish.state
  pub told : cause ≡ causes.WrongState s.board.stable.state wish.state

-- One that lies may tell another snapshot than a replica has or waits for: by a checkpoint, by a wish for a snapshot, and by
-- bytes that are to be one. No other frame is refused for that, and none of a view that begins.
abbrev pub IsOfSnapshot : {S : Type 0} → Rules S → State S → AnyFrame → Cause → Type 0
IsOfSnapshot R s (Plain (frames.Checkpoint check)) cause = IsOtherCheckpoint R s check.stmt cause
IsOfSnapshot R s (View (view_frames.Fetch wish)) cause = IsOtherWish s wish.stmt cause
IsOfSnapshot R s (View (view_frames.State place snapshot)) cause = IsUnwanted s place snapshot cause
IsOfSnapshot R s frame cause = ⊥

abbrev pub frame_brought : {S : Type 0} → World S → WorldEvent → Option AnyFrame
frame_brought w (events.Deliver number to) = option_and_then (λ mail. any_frame_in mail.bytes) (mail_at w number)
frame_brought w event = None

-- such a frame reaches a correct replica
abbrev pub IsOfFrame : {S : Type 0} → Rules S → Option (Replica S) → Option AnyFrame → Cause → Type 0
IsOfFrame R (Some x) (Some frame) cause = IsOfSnapshot R x.state frame cause
IsOfFrame R (Some x) None cause = ⊥
IsOfFrame R None frame cause = ⊥

-- A cause to refuse an event blames nobody, or it is of such a frame: so neither do two heads stand at one proven place, nor is a
-- stable checkpoint or a snapshot against what a view begins with.
abbrev pub IsJust : {S : Type 0} → Rules S → World S → ReplicaId → WorldEvent → Cause → Type 0
IsJust R w id event cause = (blames cause ≡ false) ⊎ IsOfFrame R (replica_at w id.0) (frame_brought w event) cause

-- a correct replica refuses an event for no other cause
abbrev pub BlamesNobody : {S : Type 0} → Rules S → World S → WorldEvent → Type 0
BlamesNobody {S} R w event =
    (v : World S) (id : ReplicaId) (cause : Cause) → happens R w event ≡ Goes v (notes.Refused (Some (parties.Replica id)) cause) → IsJust R w id event cause

-- whatever may happen next
pub record IsBlameless {S : Type 0} (R : Rules S) (w : World S) : Type 0 where
  pub orders : HasNoConflict w
  pub refusals : (event : WorldEvent) → BlamesNobody R w event
