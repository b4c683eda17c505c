use Rattle.std.proofs.Common.{◌≡◌, map}
use Rattle.std.specs.List.{range_with_len}
use Rattle.zy_pieces.specs.Pieces.{datagram_of, piece_at}
use Rattle.zy_pieces.proofs.cutting.cut.Given as goal

abbrev pub invariant-loop-index : goal.invariant-loop-index
invariant-loop-index l = l.datagrams.items ≡ map (λ i. datagram_of (piece_at l.frame i)) (range_with_len 0 l.index)
