-- What the law of whole steps asks of an event, and from which history the acts of its step go on.
use Rattle.std.specs.Prelude.{◌≡◌, ℕ, Result, Ok, Err, List}
use Rattle.zy_base.specs.declared.frame_fault.FrameFault.{FrameFault}
use Rattle.zy_base.specs.declared.frame_fault.FrameFault.TheVariants as faults
use Rattle.zy_base.specs.declared.step.Event.{Event}
use Rattle.zy_base.specs.declared.step.Event.TheVariants.{Heard, Timer}
use Rattle.zy_chain.specs.declared.entry.Entry.{Entry}
use Rattle.zy_frames.specs.Frames as plain
use Rattle.zy_frames.specs.declared.frame.Frame.{Frame}
use Rattle.zy_law.specs.World.{World}
use Rattle.zy_table.specs.Deeds.{Outcome}
use Rattle.zy_table.specs.State.{State}
use Rattle.zy_vframes.specs.ViewFrames as views
use Rattle.zy_law_views.specs.Texts.{Texts}
use Rattle.zy_law_views.specs.Frames.{IsHonestlyRead, history_read}
use Rattle.zy_law_steps.specs.Heard.{IsEventHeld}

-- What is read as a frame of normal operation is held; and what isn't, by its kind, but as one of a change of view, is honest.
pub record IsEventHonest {S : Type 0} (w : World) (texts : Texts) (s : State S) (event : Event) : Type 0 where
  pub held : IsEventHeld w s event
  pub honest : (bytes : List ℕ) → event ≡ Heard bytes → plain.frame_in bytes ≡ Err faults.Kind → IsHonestlyRead w texts s (views.frame_in bytes)

-- a snapshot that comes may make the replica go on from the list for which it stands, and nothing else does
abbrev pub history_decoded : {S : Type 0} → Texts → State S → List Entry → List ℕ → Result Frame FrameFault → Outcome S → List Entry
history_decoded texts s history bytes (Err faults.Kind) outcome = history_read texts s history (views.frame_in bytes) outcome
history_decoded texts s history bytes (Err fault) outcome = history
history_decoded texts s history bytes (Ok frame) outcome = history

abbrev pub history_of : {S : Type 0} → Texts → State S → List Entry → Event → Outcome S → List Entry
history_of texts s history (Heard bytes) outcome = history_decoded texts s history bytes (plain.frame_in bytes) outcome
history_of texts s history (Timer kind) outcome = history
