use Rattle.std.proofs.Common.{◌≡◌, ◌≤◌, length, take}
use Rattle.zy_exec.specs.Kept.{now_of}
use Rattle.zy_exec.specs.Snapshot.{listed}
use Rattle.zy_exec.proofs.track.Track.known_count.Given as goal

abbrev pub invariant-loop-client : goal.invariant-loop-client
invariant-loop-client g l = record {
  counted : l.count ≡ length (listed 0 (take l.client (now_of g.M.Machine.rules l.self).known));
  few : l.count ≤ l.client;
}
