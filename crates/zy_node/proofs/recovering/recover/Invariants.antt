use Rattle.std.proofs.Common.{◌≡◌, ◌-◌, ◌^◌}
use Rattle.zy_journal.specs.Disk.{Rests}
use Rattle.zy_journal.specs.Journal.{IsAtGate}
use Rattle.zy_node.proofs.RecoverLemmas.{IsSoFar}
use Rattle.zy_node.proofs.recovering.recover.Given as goal

abbrev pub invariant-records : goal.invariant-records
invariant-records g l = record {
  so_far : IsSoFar g.C.Core.rules l.fn.core (g.D.Disk.contents l.fn.disk) l.fn.reading l.core l.reading;
  gate : IsAtGate (g.D.Disk.contents l.disk) (g.D.Disk.may_leave l.disk) l.reading;
  rests : Rests g.D.Disk.contents g.D.Disk.may_leave g.D.Disk.moment g.D.Disk.left_since l.fn.disk l.disk;
  faults : g.D.Disk.faults l.disk ≡ g.D.Disk.faults l.fn.disk;
}

abbrev pub decreases-records : goal.decreases-records
decreases-records g l = 2 ^ 64 - l.reading
