use Rattle.std.proofs.Common.{◌∙◌, arith}
use Rattle.std.proofs.lemmas.Grind.{common_steps}
use Rattle.zy_top_words.proofs.Known.{AppendsUpTo-more}
use Rattle.zy_top_words.proofs.writing.write_all.Goals as goal

pub pieces-preserved : goal.pieces-preserved
pieces-preserved g c = record {
  sent = AppendsUpTo-more _ _ _ _ _ _ _ c.pieces.invariant.sent c.in-Took.ensures.bytes.2 (grind (arith, common_steps));
  count = c.in-Took.ensures.count ∙ c.pieces.invariant.count;
}
