use Rattle.std.proofs.Common.{◌≡◌, take}
use Rattle.std.specs.List.{AllByRecursion}
use Rattle.zy_table.specs.Adopting.{with_entries, gots_along, IsGotInRange}
use Rattle.zy_replica_adopt.proofs.taking.run_all.Given as goal

abbrev pub invariant-loop-entry : goal.invariant-loop-entry
invariant-loop-entry g l = record {
  entries : l.entries ≡ l.initial.entries;
  exec : l.exec ≡ with_entries l.initial.exec (take l.entry-index l.entries);
  gained : l.gots ≡ gots_along g.M.Machine.rules l.initial.exec (take l.entry-index l.entries);
  range : AllByRecursion IsGotInRange l.gots;
}
