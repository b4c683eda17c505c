use Rattle.std.proofs.Common.{◌≡◌, ◌++◌, map, take}
use Rattle.zy_table.specs.Beginning.{fetch_to}
use Rattle.zy_replica_views.proofs.waiting.push_each.Given as goal

abbrev pub invariant-loop-by : goal.invariant-loop-by
invariant-loop-by l = l.sent ≡ l.initial.sent ++ map (fetch_to l.said) (take l.by-index l.asked)
