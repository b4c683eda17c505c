use Rattle.std.proofs.Common.{◌≡◌, length}
use Rattle.std.specs.Slice.Iter.{iter_rest}
use Rattle.std.specs.Iterator.Adapters.{zip_first, zip_second}
use Rattle.zy_tuple.specs.Values.{matches as matched}
use Rattle.zy_tuple.proofs.matching.matches.Given as goal

-- what is left is as long, and matches where the whole does
abbrev pub invariant-loop-slot : goal.invariant-loop-slot
invariant-loop-slot l = record {
  long : length (iter_rest (zip_first l.slot-iterator)) ≡ length (iter_rest (zip_second l.slot-iterator));
  left : matched (iter_rest (zip_first l.slot-iterator)) (iter_rest (zip_second l.slot-iterator)) ≡ matched l.template l.tuple;
}
