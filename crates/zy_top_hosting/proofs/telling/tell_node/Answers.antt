use Rattle.zy_top_hosting.proofs.Tellings.{untold}
use Rattle.zy_top_hosting.proofs.telling.tell_node.Goals as goal

pub returns-in-Err : goal.returns-in-Err
returns-in-Err g c = untold _ _ _
