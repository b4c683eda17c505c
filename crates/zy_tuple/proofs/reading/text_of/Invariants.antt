use Rattle.std.proofs.Common.{◌≡◌, ◌≤◌, length, false}
use Rattle.zy_tuple.specs.Reading.{quoted}
use Rattle.zy_tuple.proofs.Quoted.{behind}
use Rattle.zy_tuple.proofs.reading.text_of.Given as goal

abbrev pub invariant-characters : goal.invariant-characters
invariant-characters l = record {
  so_far : behind l.text.items (quoted false l.rest) ≡ quoted false l.line;
  short : length l.text.items ≤ 64;
}

abbrev pub decreases-characters : goal.decreases-characters
decreases-characters l = length l.rest
