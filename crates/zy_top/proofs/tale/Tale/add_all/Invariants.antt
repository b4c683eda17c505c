use Rattle.std.proofs.Common.{◌≡◌, ◌+◌, ◌≤◌, length, take}
use Rattle.zy_top.specs.Replaying.{Adds}
use Rattle.zy_top.proofs.tale.Tale.add_all.Given as goal

-- the first events were added
abbrev pub invariant-loop-note : goal.invariant-loop-note
invariant-loop-note l = record {
  told : Adds l.initial.self l.self (take l.note-index l.notes);
  within : l.note-index ≤ length l.notes;
  count : l.self.tally.events ≤ l.initial.self.tally.events + l.note-index;
}
