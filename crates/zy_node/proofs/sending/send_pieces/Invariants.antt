use Rattle.std.proofs.Common.{◌≡◌, take}
use Rattle.zy_node.specs.Told.{Sends}
use Rattle.zy_node.specs.Turn.{parcels_to}
use Rattle.zy_node.proofs.sending.send_pieces.Given as goal

abbrev pub invariant-loop-datagram : goal.invariant-loop-datagram
invariant-loop-datagram g l = record {
  sent : Sends (parcels_to l.to (take l.datagram-index l.datagrams)) (g.L.Link.mail l.fn.link) (g.L.Link.mail l.link);
  receives : g.L.Link.receives l.link ≡ g.L.Link.receives l.fn.link;
  binding : g.L.Link.binding l.link ≡ g.L.Link.binding l.fn.link;
  faults : g.L.Link.faults l.link ≡ g.L.Link.faults l.fn.link;
}
