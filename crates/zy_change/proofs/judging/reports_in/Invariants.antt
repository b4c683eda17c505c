use Rattle.std.proofs.Common.{◌≡◌, drop, map, take}
use Rattle.zy_evidence.specs.Reading.{read}
use Rattle.zy_change.specs.Judging.{first_broken}
use Rattle.zy_change.proofs.judging.reports_in.Given as goal

abbrev pub invariant-loop-change : goal.invariant-loop-change
invariant-loop-change l =
    (l.reports ≡ map read (take l.change-index l.changes))
    × (first_broken l.machine.counts l.machine.interval (drop l.change-index l.changes) ≡ first_broken l.machine.counts l.machine.interval l.changes)
