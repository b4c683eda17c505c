use Rattle.std.proofs.Common.{◌≡◌, take}
use Rattle.std.specs.List.{filter_map, range_with_len}
use Rattle.zy_change.specs.Ahead.{kept_change}
use Rattle.zy_change.specs.Views.{change_for}
use Rattle.zy_change.proofs.machine.ViewMachine.gathered.Given as goal

abbrev pub invariant-loop-id : goal.invariant-loop-id
invariant-loop-id l = l.changes ≡ take l.self.counts.change (filter_map (λ id. change_for l.view.0 (kept_change l.self id)) (range_with_len 0 l.id))
