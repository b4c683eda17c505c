use Rattle.std.proofs.Common.{sym, subst}
use Rattle.zy_journal.specs.Journal.{IsAtEnd}
use Rattle.zy_node.specs.Keeping.{KeptState}
use Rattle.zy_node.proofs.ReplicaLemmas.{replica_suits}
use Rattle.zy_node.proofs.kept.KeptNode.take.Goals as goal

pub turn-requires-clause-free : goal.turn-requires-clause-free
turn-requires-clause-free g c = c.self.invariant.free

pub turn-requires-clause-suits : goal.turn-requires-clause-suits
turn-requires-clause-suits g c = replica_suits g.M.Machine.rules

pub turn-requires-clause-silent : goal.turn-requires-clause-silent
turn-requires-clause-silent g c = c.self.invariant.silent

pub turn-requires-clause-end : goal.turn-requires-clause-end
turn-requires-clause-end g c = subst (λ (n : KeptState _). IsAtEnd (g.D.Disk.contents c.args.disk.now) (g.D.Disk.may_leave c.args.disk.now) n.gate) (sym c.self.view_is) c.requires
