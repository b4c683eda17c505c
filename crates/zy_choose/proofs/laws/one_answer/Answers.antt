use Rattle.zy_choose.proofs.OneAnswer.{one_answer_lem}
use Rattle.zy_choose.proofs.laws.one_answer.Goals as goal

pub returns : goal.returns
returns c = one_answer_lem
