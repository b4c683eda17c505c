-- The frame that bytes spell, of normal operation or of a change of view.
use Rattle.std.specs.Prelude.{List, [], Option, Some, None, option_map, unwrap_or, Result, Ok, Err}
use Rattle.zy_base.specs.declared.frame_fault.FrameFault.{FrameFault}
use Rattle.zy_base.specs.declared.frame_fault.FrameFault.TheVariants as faults
use Rattle.zy_frames.specs.Frames as plain
use Rattle.zy_frames.specs.declared.frame.Frame.{Frame}
use Rattle.zy_parts.specs.declared.signed.Part.{Part}
use Rattle.zy_table.specs.declared.deeds.AnyFrame.{AnyFrame}
use Rattle.zy_table.specs.declared.deeds.AnyFrame.TheVariants.{Plain, View}
use Rattle.zy_vframes.specs.Parts as view_parts
use Rattle.zy_vframes.specs.ViewFrames as views
use Rattle.zy_vframes.specs.declared.frame.ViewFrame.{ViewFrame}
use Rattle.std.specs.Prelude.{ℕ}

abbrev pub view_read : Result ViewFrame FrameFault → Option AnyFrame
view_read (Err fault) = None
view_read (Ok frame) = Some (View frame)

-- what is no frame of normal operation by its kind may be one of a view change
abbrev pub either_read : List ℕ → Result Frame FrameFault → Option AnyFrame
either_read bytes (Err faults.Kind) = view_read (views.frame_in bytes)
either_read bytes (Err fault) = None
either_read bytes (Ok frame) = Some (Plain frame)

abbrev pub any_frame_in : List ℕ → Option AnyFrame
any_frame_in bytes = either_read bytes (plain.frame_in bytes)

-- what is signed in it
abbrev pub parts_of : AnyFrame → List Part
parts_of (Plain frame) = plain.parts_of frame
parts_of (View frame) = view_parts.parts_of frame

-- what is signed in bytes that spell a frame
abbrev pub parts_in : List ℕ → List Part
parts_in bytes = unwrap_or (option_map parts_of (any_frame_in bytes)) []
