use Rattle.std.proofs.Common.{◌≡◌, ◌∷◌, ◌++◌, take}
use Rattle.std.specs.List.{flat_map}
use Rattle.zy_parts.specs.Numbers as numbers
use Rattle.zy_parts.specs.Reports.{new_fields}
use Rattle.zy_parts.specs.Signing.{part_of}
use Rattle.zy_vframes.specs.Parts.{parts_of_change}
use Rattle.zy_vframes.proofs.part_list.push_new.Given as goal

abbrev pub invariant-loop-change : goal.invariant-loop-change
invariant-loop-change l = l.parts.items ≡ l.fn.parts.items ++ part_of numbers.new new_fields l.new ∷ flat_map parts_of_change (take l.change-index l.new.stmt.changes)
