-- What the frames that are heard may hold.
use Rattle.zy_frames.specs.Frames as plain
use Rattle.zy_table.specs.declared.deeds.AnyFrame.{AnyFrame}
use Rattle.zy_table.specs.declared.deeds.AnyFrame.TheVariants.{Plain, View}
use Rattle.zy_vframes.specs.ViewFrames as views

-- beside what their types say
abbrev pub IsInRange : AnyFrame → Type 0
IsInRange (Plain frame) = plain.IsFrameInRange frame
IsInRange (View frame) = views.IsFrameInRange frame
