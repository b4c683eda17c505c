-- A small schedule, and what is told of its run: bytes that spell no frame reach a replica, and a frame is named that there isn't.
use Rattle.std.specs.Prelude.{List, [], ◌∷◌, Some, None}
use Rattle.zy_base.specs.declared.cause.Cause.TheVariants as causes
use Rattle.zy_base.specs.declared.frame_fault.FrameFault.TheVariants.{Short}
use Rattle.zy_base.specs.declared.ids.Party.{Party}
use Rattle.zy_base.specs.declared.ids.Party.TheVariants.{Replica}
use Rattle.zy_schedule.specs.declared.line.Line.{Line}
use Rattle.zy_schedule.specs.declared.line.Line.TheVariants as lines
use Rattle.zy_wire.specs.Kind.{frame_version}
use Rattle.zy_world_law.specs.declared.note.Note.{Note}
use Rattle.zy_world_law.specs.declared.note.Note.TheVariants as notes

abbrev pub second_replica : Party
second_replica = Replica (record { 0 = 1 })

-- raw 02 to r1; flow 1; deliver 9
abbrev pub small_schedule : List Line
small_schedule = lines.Raw (frame_version ∷ []) (second_replica ∷ []) ∷ lines.Flow 1 ∷ lines.Deliver 9 None ∷ []

abbrev pub small_notes : List Note
small_notes =
    notes.Quiet
    ∷ notes.Refused (Some second_replica) (causes.NotFrame Short)
    ∷ notes.Refused None causes.NoSubject
    ∷ []
