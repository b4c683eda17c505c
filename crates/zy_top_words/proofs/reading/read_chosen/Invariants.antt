use Rattle.std.proofs.Common.{◌≡◌, ◌-◌, ◌≤◌, IsTrue, length}
use Rattle.std.specs.Io.KnownBytes.{Consumes}
use Rattle.zy_top_words.specs.Ends.{limit}
use Rattle.zy_top_words.proofs.reading.read_chosen.Given as goal

-- what was read so far is the front of what there was, and no call has failed
abbrev pub invariant-pieces : goal.invariant-pieces
invariant-pieces g l = record {
  readable : IsTrue (g.F.Files.is_chosen l.files);
  size : length l.text.items ≤ limit;
  bytes : Consumes (g.F.Files.rest l.initial.files) (g.F.Files.rest l.files) l.text.items;
  held : g.F.Files.held l.files ≡ g.F.Files.held l.initial.files;
  count : g.F.Files.faults l.files ≡ g.F.Files.faults l.initial.files;
}

abbrev pub decreases-pieces : goal.decreases-pieces
decreases-pieces g l = limit - length l.text.items
