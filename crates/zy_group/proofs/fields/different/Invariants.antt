use Rattle.std.proofs.Common.{◌≡◌, [], drop}
use Rattle.toml.specs.View.{items_view}
use Rattle.zy_group.specs.Fields.{different_from}
use Rattle.zy_group.proofs.fields.different.Given as goal

abbrev pub invariant-values : goal.invariant-values
invariant-values l =
    different_from l.last l.numbers (items_view (drop l.value-index l.array.items)) ≡ different_from l.fn.last [] (items_view l.fn.array.items)
