use Rattle.std.proofs.Common.{◌≤◌, length}
use Rattle.zy_schedule.proofs.ListLemmas.{IsSoFar}
use Rattle.zy_schedule.proofs.list.list.Given as goal

abbrev pub invariant-items : goal.invariant-items
invariant-items g l = record {
  so_far : IsSoFar g.T.Part.part_read l.end l.limit l.line l.items.items l.rest;
  few : length l.items.items ≤ l.limit;
}

abbrev pub decreases-items : goal.decreases-items
decreases-items g l = length l.rest
