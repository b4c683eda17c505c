use Rattle.zy_node.specs.Replicas.{replica_rules}
use Rattle.zy_node.proofs.ReplicaLemmas.{replica_suits}
use Rattle.zy_node.proofs.WordLemmas.{word_of}
use Rattle.zy_node.proofs.laws.stored_before_sent.Goals as goal

pub returns : goal.returns
returns g c = λ turns before result from to old new ran.
    word_of g.D.Disk.contents g.D.Disk.may_leave g.D.Disk.moment g.D.Disk.left_since (replica_rules g.M.Machine.rules) turns before result from to old new g.met.D.Disk.counts_now (replica_suits g.M.Machine.rules) ran
