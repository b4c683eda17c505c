use Rattle.std.proofs.Common.{◌≡◌}
use Rattle.zy_node.specs.Replicas.{replica_rules}
use Rattle.zy_node.specs.Serving.{IsKeptRun}
use Rattle.zy_node.proofs.kept.KeptNode.serve.Given as goal

abbrev pub invariant-loop : goal.invariant-loop
invariant-loop g l = record {
  run : IsKeptRun g.D.Disk.contents g.D.Disk.may_leave g.D.Disk.moment g.D.Disk.left_since (replica_rules g.M.Machine.rules) l.counter l.fn.self l.node
      (record { mail = g.L.Link.mail l.fn.link; receives = g.L.Link.receives l.fn.link; moments = g.T.Clock.moments l.fn.clock })
      (record { mail = g.L.Link.mail l.link; receives = g.L.Link.receives l.link; moments = g.T.Clock.moments l.clock }) l.fn.disk l.disk;
  binding : g.L.Link.binding l.link ≡ g.L.Link.binding l.fn.link;
  disk_faults : g.D.Disk.faults l.disk ≡ g.D.Disk.faults l.fn.disk;
  link_faults : g.L.Link.faults l.link ≡ g.L.Link.faults l.fn.link;
}
