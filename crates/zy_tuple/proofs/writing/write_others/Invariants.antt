use Rattle.std.proofs.Common.{◌≡◌, ◌++◌, take, map}
use Rattle.std.specs.List.{flat_map}
use Rattle.zy_tuple.specs.Texts.{behind_space}
use Rattle.zy_tuple.proofs.writing.write_others.Given as goal

abbrev pub invariant-loop-item : goal.invariant-loop-item
invariant-loop-item g l = l.out.items ≡ l.fn.out.items ++ flat_map behind_space (map g.T.Item.text (take l.item-index l.items))
