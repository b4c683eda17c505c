use Rattle.std.proofs.Common.{◌≡◌, ◌++◌, take}
use Rattle.std.specs.List.{flat_map}
use Rattle.zy_tuple.specs.Texts.{escaped}
use Rattle.zy_tuple.proofs.writing.write_escaped.Given as goal

abbrev pub invariant-loop-c : goal.invariant-loop-c
invariant-loop-c l = l.out.items ≡ l.fn.out.items ++ flat_map escaped (take l.c-index l.text)
