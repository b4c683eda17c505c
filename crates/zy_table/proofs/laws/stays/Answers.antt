use Rattle.zy_table.proofs.BeginningLemmas.{stays_same}
use Rattle.zy_table.proofs.laws.stays.Goals as goal

pub returns : goal.returns
returns g c = stays_same g.M.Machine.rules
