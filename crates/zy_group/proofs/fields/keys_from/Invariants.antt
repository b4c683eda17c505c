use Rattle.std.proofs.Common.{◌≡◌, [], drop}
use Rattle.toml.specs.View.{items_view}
use Rattle.zy_group.specs.Fields.{keys_from}
use Rattle.zy_group.proofs.fields.keys_from.Given as goal

abbrev pub invariant-values : goal.invariant-values
invariant-values l =
    keys_from l.keys.items (items_view (drop l.value-index l.array.items)) ≡ keys_from [] (items_view l.fn.array.items)
