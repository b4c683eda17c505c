use Rattle.std.proofs.Common.{◌≡◌, ◌++◌, ℕ, List, length, map}
use Rattle.std.specs.List.{list_any}
use Rattle.std.specs.Str.{bytes_eq}
use Rattle.zy_world_setup.proofs.text_set.TextSet.add_all.Given as goal

abbrev pub invariant-loop-spoken : goal.invariant-loop-spoken
invariant-loop-spoken l =
    ((q : List ℕ) → list_any (bytes_eq q) (l.self ++ map (λ spoken. spoken.text) l.spoken-iterator.rest.items) ≡ list_any (bytes_eq q) (l.fn.self ++ map (λ spoken. spoken.text) l.fn.said))
    × (length l.spoken-iterator.rest.items ≡ l.spoken-iterator.rest.len)
