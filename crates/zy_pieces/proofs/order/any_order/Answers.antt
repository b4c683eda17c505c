use Rattle.zy_pieces.proofs.OrderLemmas.{in_any_order}
use Rattle.zy_pieces.proofs.PieceLemmas.{piece_again, frame_piece}
use Rattle.zy_pieces.proofs.order.any_order.Goals as goal

pub returns : goal.returns
returns c = record {
  whole = λ frame gs datagrams there. in_any_order frame gs datagrams there;
  again = λ frame i some long within. piece_again _ (frame_piece frame i some long within);
}
