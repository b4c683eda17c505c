use Rattle.std.proofs.Common.{◌≡◌, take}
use Rattle.std.specs.List.{AllByRecursion}
use Rattle.zy_chain.specs.Entries.{IsEntryInRange}
use Rattle.zy_change.proofs.telling.entry_copies.Given as goal

abbrev pub invariant-loop-above : goal.invariant-loop-above
invariant-loop-above l = (l.entries ≡ take l.above l.spine.entries) × AllByRecursion IsEntryInRange l.entries
