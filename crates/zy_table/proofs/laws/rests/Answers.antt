use Rattle.zy_table.proofs.BeginningLemmas.{uncertified}
use Rattle.zy_table.proofs.laws.rests.Goals as goal

pub returns-clause-uncertified : goal.returns-clause-uncertified
returns-clause-uncertified g c = λ s answer h. uncertified g.M.Machine.rules answer h s
