use Rattle.std.proofs.Common.{◌≡◌}
use Rattle.zy_node.specs.Told.{IsRun}
use Rattle.zy_node.proofs.host.Host.serve.Given as goal

abbrev pub invariant-loop : goal.invariant-loop
invariant-loop g l = record {
  run : IsRun g.C.Core.rules l.counter l.fn.self l.host
      (record { mail = g.L.Link.mail l.fn.link; receives = g.L.Link.receives l.fn.link; moments = g.T.Clock.moments l.fn.clock })
      (record { mail = g.L.Link.mail l.link; receives = g.L.Link.receives l.link; moments = g.T.Clock.moments l.clock });
  binding : g.L.Link.binding l.link ≡ g.L.Link.binding l.fn.link;
  faults : g.L.Link.faults l.link ≡ g.L.Link.faults l.fn.link;
}
