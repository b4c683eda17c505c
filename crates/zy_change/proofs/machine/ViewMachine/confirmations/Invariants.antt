use Rattle.std.proofs.Common.{◌≡◌, take}
use Rattle.std.specs.List.{filter_map, range_with_len}
use Rattle.zy_change.specs.Ahead.{kept_began}
use Rattle.zy_change.specs.Views.{began_equal}
use Rattle.zy_change.proofs.machine.ViewMachine.confirmations.Given as goal

abbrev pub invariant-loop-id : goal.invariant-loop-id
invariant-loop-id l = l.begans ≡ take l.self.counts.cert (filter_map (λ id. began_equal l.began (kept_began l.self id)) (range_with_len 0 l.id))
