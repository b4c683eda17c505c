use Rattle.zy_law_steps.proofs.SaidBack.{body_back}
use Rattle.zy_law_steps.proofs.said.said_back.Goals as goal

pub returns : goal.returns
returns c = body_back
