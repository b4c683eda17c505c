use Rattle.std.proofs.Common.{◌≤◌, ◌-◌, length}
use Rattle.zy_world.specs.Gathering.{GoesOn}
use Rattle.zy_world.proofs.world.World.gather.Given as goal

-- the frames before this index were gathered
abbrev pub invariant-loop-at : goal.invariant-loop-at
invariant-loop-at g l = record {
  on : GoesOn l.self l.self.bag.passed.idle l.initial.batch l.at l.batch;
  few : length l.initial.batch.dues.items ≤ l.most → length l.batch.dues.items ≤ l.most;
}

abbrev pub decreases-loop-at : goal.decreases-loop-at
decreases-loop-at g l = length l.self.bag.mails - l.at
