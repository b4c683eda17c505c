use Rattle.zy_law_steps.proofs.PassingParts.{frame_passes, view_passes}
use Rattle.zy_law_steps.proofs.passed_on.statements_are_parts.Goals as goal

pub returns : goal.returns
returns c = record { plain = λ p frame is. frame_passes p frame is; view = λ p frame is. view_passes p frame is }
