use Rattle.std.proofs.Common.{◌≡◌, take}
use Rattle.zy_chain.specs.Heads.{head_from}
use Rattle.zy_replica_adopt.proofs.judging.head_after.Given as goal

abbrev pub invariant-loop-entry : goal.invariant-loop-entry
invariant-loop-entry l = (l.entry-items ≡ take l.count l.told.entries) × (l.head ≡ head_from l.told.stable_head (take l.entry-index l.entry-items))
