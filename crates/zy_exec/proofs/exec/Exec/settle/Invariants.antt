use Rattle.std.proofs.Common.{◌≡◌, ◌≤◌, length}
use Rattle.zy_exec.specs.Kept.{settled, last_place}
use Rattle.zy_exec.proofs.exec.Exec.settle.Given as goal

-- so far the base moved to where it stands
abbrev pub invariant-loop-place : goal.invariant-loop-place
invariant-loop-place g l = record {
  above : l.fn.self.base.place ≤ l.self.base.place;
  below : l.self.base.place ≤ l.place.0;
  end : last_place l.self ≡ last_place l.fn.self;
  moved : l.self ≡ settled g.M.Machine.rules l.self.base.place l.fn.self;
}

abbrev pub decreases-loop-place : goal.decreases-loop-place
decreases-loop-place g l = length l.self.entries
