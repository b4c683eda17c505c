use Rattle.std.proofs.Common.{◌≡◌, take}
use Rattle.zy_evidence.specs.Reading.{stretch_of}
use Rattle.zy_evidence.proofs.reading.spine_of.Given as goal

abbrev pub invariant-loop-entry : goal.invariant-loop-entry
invariant-loop-entry l = (l.entry-items ≡ l.told.entries) × (l.spine ≡ record { base = (stretch_of l.told).base; entries = take l.entry-index l.told.entries })
