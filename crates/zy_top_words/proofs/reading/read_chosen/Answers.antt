use Rattle.std.proofs.Common.{◌∙◌, arith}
use Rattle.std.proofs.KnownBytes.{Consumes-trans}
use Rattle.zy_top_words.proofs.Known.{length-grown-le, more_than, read_whole}
use Rattle.zy_top_words.proofs.reading.read_chosen.Goals as goal

pub returns-then-len-clause-bytes : goal.returns-then-len-clause-bytes
returns-then-len-clause-bytes g c =
    more_than _ _ _ _ _ _ _ c.pieces.invariant.bytes c.in-Got.ensures.bytes.2 c.in-Got.ensures.bytes.1 (omega arith)

pub pieces-preserved : goal.pieces-preserved
pieces-preserved g c =
    let grown = c.in_ok-extend_from_slice-in-Got.ensures.items in
    record {
      readable = c.in-Got.ensures.readable;
      size = rw grown (length-grown-le _ _ _ _ (omega arith) c.pieces.invariant.size);
      bytes = rw grown (Consumes-trans _ _ _ _ _ c.pieces.invariant.bytes c.in-Got.ensures.bytes.2);
      held = c.in-Got.ensures.held ∙ c.pieces.invariant.held;
      count = c.in-Got.ensures.count ∙ c.pieces.invariant.count;
    }

pub returns-in-End-clause-bytes : goal.returns-in-End-clause-bytes
returns-in-End-clause-bytes g c = (read_whole _ _ _ c.pieces.invariant.bytes c.in-End.ensures.bytes.0, c.pieces.invariant.size)
