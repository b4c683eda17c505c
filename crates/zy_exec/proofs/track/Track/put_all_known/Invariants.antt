use Rattle.std.proofs.Common.{◌≡◌, ◌≤◌, ◌+◌, ◌*◌, ◌++◌, length, take}
use Rattle.std.specs.List.{flat_map}
use Rattle.zy_exec.specs.Kept.{now_of}
use Rattle.zy_exec.specs.Snapshot.{listed, row_fields}
use Rattle.zy_chain.specs.Sizes.{record_size}
use Rattle.zy_exec.proofs.track.Track.put_all_known.Given as goal

abbrev pub invariant-loop-client : goal.invariant-loop-client
invariant-loop-client g l = record {
  bytes : l.out ≡ l.fn.out ++ flat_map row_fields.spell (listed 0 (take l.client (now_of g.M.Machine.rules l.self).known));
  short : length l.out ≤ length l.fn.out + l.client * record_size;
}
