use Rattle.std.proofs.Common.{◌≡◌, ◌++◌, take}
use Rattle.zy_node.specs.Keeping.{all_owed}
use Rattle.zy_node.specs.Turn.{all_parcels}
use Rattle.zy_node.proofs.owing.owe_all.Given as goal

abbrev pub invariant-loop-to : goal.invariant-loop-to
invariant-loop-to l = all_owed l.owed ≡ all_owed l.fn.owed ++ all_parcels (take l.to-index l.out)
