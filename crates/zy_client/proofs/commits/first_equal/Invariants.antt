use Rattle.std.proofs.Common.{◌≡◌, take}
use Rattle.std.specs.List.{filter_map}
use Rattle.zy_table.specs.ClientRows.{equal_in}
use Rattle.zy_client.proofs.commits.first_equal.Given as goal

abbrev pub invariant-loop-slot : goal.invariant-loop-slot
invariant-loop-slot l = l.list ≡ take l.count (filter_map (equal_in l.spec) (take l.slot-index l.responses))
