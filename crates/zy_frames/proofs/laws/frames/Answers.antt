use Rattle.zy_wire.proofs.FramingLaws.{one_frame}
use Rattle.zy_frames.specs.Frames.{kind_of_frame, fields_of, FitsFrame, IsFrameInRange, frame_at}
use Rattle.zy_frames.specs.FrameLaws.{frame-laws}
use Rattle.zy_frames.proofs.FrameLengths.{spelling-len}
use Rattle.zy_frames.proofs.laws.frames.Goals as goal

pub returns-clause-in_range : goal.returns-clause-in_range
returns-clause-in_range c = frame-laws.ranges

pub returns-clause-len : goal.returns-clause-len
returns-clause-len c = spelling-len

pub returns-clause-one : goal.returns-clause-one
returns-clause-one c = one_frame kind_of_frame fields_of FitsFrame IsFrameInRange frame_at frame-laws
