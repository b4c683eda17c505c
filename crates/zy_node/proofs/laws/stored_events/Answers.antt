use Rattle.zy_node.specs.Replicas.{replica_rules}
use Rattle.zy_node.proofs.EventLemmas.{same_as_kept}
use Rattle.zy_node.proofs.ReplicaLemmas.{replica_suits}
use Rattle.zy_node.proofs.laws.stored_events.Goals as goal

pub returns : goal.returns
returns g c = λ turns host. same_as_kept (replica_rules g.M.Machine.rules) turns host (replica_suits g.M.Machine.rules)
