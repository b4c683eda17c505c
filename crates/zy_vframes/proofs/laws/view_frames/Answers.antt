use Rattle.zy_wire.proofs.FramingLaws.{one_frame}
use Rattle.zy_vframes.specs.ViewFrames.{kind_of_frame, fields_of, FitsFrame, IsFrameInRange, frame_at}
use Rattle.zy_vframes.specs.ViewFrameLaws.{frame-laws}
use Rattle.zy_vframes.proofs.ViewFrameLengths.{spelling-len}
use Rattle.zy_vframes.proofs.laws.view_frames.Goals as goal

pub returns-clause-in_range : goal.returns-clause-in_range
returns-clause-in_range c = frame-laws.ranges

pub returns-clause-short : goal.returns-clause-short
returns-clause-short c = spelling-len

pub returns-clause-one : goal.returns-clause-one
returns-clause-one c = one_frame kind_of_frame fields_of FitsFrame IsFrameInRange frame_at frame-laws
