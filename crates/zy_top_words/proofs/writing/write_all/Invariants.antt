use Rattle.std.proofs.Common.{◌≡◌, length}
use Rattle.zy_top_words.specs.Ends.{AppendsUpTo}
use Rattle.zy_top_words.proofs.writing.write_all.Given as goal

-- what was taken so far and the rest make the whole, and no call has failed
abbrev pub invariant-pieces : goal.invariant-pieces
invariant-pieces g l = record {
  sent : AppendsUpTo (g.S.Sink.taken l.initial.out) (g.S.Sink.taken l.out) l.bytes l.rest;
  count : g.S.Sink.faults l.out ≡ g.S.Sink.faults l.initial.out;
}

abbrev pub decreases-pieces : goal.decreases-pieces
decreases-pieces g l = length l.rest
