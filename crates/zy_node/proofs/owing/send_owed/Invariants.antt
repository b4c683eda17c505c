use Rattle.std.proofs.Common.{◌≡◌, take}
use Rattle.zy_node.specs.Keeping.{all_owed}
use Rattle.zy_node.specs.Told.{Sends}
use Rattle.zy_node.proofs.owing.send_owed.Given as goal

abbrev pub invariant-loop-one : goal.invariant-loop-one
invariant-loop-one g l = record {
  sent : Sends (all_owed (take l.one-index l.owed)) (g.L.Link.mail l.fn.link) (g.L.Link.mail l.link);
  receives : g.L.Link.receives l.link ≡ g.L.Link.receives l.fn.link;
  binding : g.L.Link.binding l.link ≡ g.L.Link.binding l.fn.link;
  faults : g.L.Link.faults l.link ≡ g.L.Link.faults l.fn.link;
}
