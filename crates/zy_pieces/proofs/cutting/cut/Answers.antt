use Rattle.std.proofs.Common.{◌∙◌}
use Rattle.zy_pieces.proofs.CutLemmas.{one_datagram_more, rounded_up}
use Rattle.zy_pieces.proofs.cutting.cut.Goals as goal

pub loop-index-preserved : goal.loop-index-preserved
loop-index-preserved c =
    one_datagram_more c.args.frame.now c.loop-index.index c.loop-index.datagrams.items _ c.in_ok-datagram.field-0 _ _ _
    c.loop-index.invariant c.in_ok-push.ensures.items c.in_ok-datagram.ensures c.digest.ensures (c.div_ceil-count.ensures ∙ rounded_up _) c.payload_at-payload.ensures.payload
