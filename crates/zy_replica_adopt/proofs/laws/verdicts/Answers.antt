use Rattle.zy_replica_adopt.proofs.MeetLemmas.{takes_meets}
use Rattle.zy_replica_adopt.proofs.laws.verdicts.Goals as goal

pub returns : goal.returns
returns g c = takes_meets g.M.Machine.rules
