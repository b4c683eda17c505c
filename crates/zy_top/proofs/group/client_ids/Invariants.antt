use Rattle.std.proofs.Common.{◌≡◌, map, take}
use Rattle.zy_top.proofs.group.client_ids.Given as goal

-- the first numbers
abbrev pub invariant-loop-number : goal.invariant-loop-number
invariant-loop-number l = map (λ id. id.0) l.ids.items ≡ take l.number-index l.numbers
