use Rattle.std.proofs.Common.{take}
use Rattle.std.specs.List.{flat_map}
use Rattle.zy_choose.specs.Choice.{last_in}
use Rattle.zy_choose.specs.Furthest.{IsFurthest}
use Rattle.zy_choose.specs.Reports.{proven}
use Rattle.zy_choose.proofs.furthest.furthest_proven.Given as goal

-- the furthest of the marks of the reports so far
abbrev pub invariant-loop-report : goal.invariant-loop-report
invariant-loop-report l = IsFurthest l.seen (flat_map proven (last_in l.view.0 (take l.report-index l.reports)))
