use Rattle.std.proofs.Common.{◌≡◌, ◌++◌}
use Rattle.std.specs.List.{flat_map, range_with_len}
use Rattle.zy_wide.specs.Calm.{job_lines}
use Rattle.zy_wide.proofs.lines.put_jobs.Given as goal

abbrev pub invariant-loop-number : goal.invariant-loop-number
invariant-loop-number l = l.lines.items ≡ l.fn.lines.items ++ flat_map (job_lines l.n) (range_with_len 0 l.number)
