use Rattle.std.proofs.Common.{◌≡◌, ◌+◌, take}
use Rattle.zy_chain.specs.Heads.{head_from}
use Rattle.zy_evidence.specs.Reading.{stretch_of}
use Rattle.zy_exec.specs.Kept.{stretch_of as own_stretch}
use Rattle.zy_table.specs.Adopting.{common_up_to}
use Rattle.zy_replica_adopt.proofs.taking.common_with.Given as goal

abbrev pub invariant-loop-entry : goal.invariant-loop-entry
invariant-loop-entry g l = record {
  items : l.entry-items ≡ take l.count l.told.entries;
  at : l.at.0 ≡ l.told.stable_place.0 + l.entry-index;
  head : l.head ≡ head_from l.told.stable_head (take l.entry-index l.told.entries);
  common : l.common.0 ≡ common_up_to l.at.0 (stretch_of l.told) (own_stretch l.exec);
}
