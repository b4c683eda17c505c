use Rattle.std.proofs.Common.{◌≡◌, take}
use Rattle.zy_node.specs.Told.{Sends}
use Rattle.zy_node.specs.Turn.{all_parcels}
use Rattle.zy_node.proofs.sending.send_all.Given as goal

abbrev pub invariant-loop-to : goal.invariant-loop-to
invariant-loop-to g l = record {
  sent : Sends (all_parcels (take l.to-index l.out)) (g.L.Link.mail l.fn.link) (g.L.Link.mail l.link);
  receives : g.L.Link.receives l.link ≡ g.L.Link.receives l.fn.link;
  binding : g.L.Link.binding l.link ≡ g.L.Link.binding l.fn.link;
  faults : g.L.Link.faults l.link ≡ g.L.Link.faults l.fn.link;
}
