use Rattle.std.proofs.Common.{◌≡◌, take}
use Rattle.std.specs.Prelude.{option_copied}
use Rattle.std.specs.List.{filter_map, range_with_len}
use Rattle.zy_change.specs.Ahead.{report_ahead}
use Rattle.zy_change.proofs.machine.ViewMachine.reports.Given as goal

abbrev pub invariant-loop-id : goal.invariant-loop-id
invariant-loop-id l = l.reports ≡ take l.self.counts.change (filter_map (report_ahead l.self l.view (option_copied l.heard) (option_copied l.own)) (range_with_len 0 l.id))
