use Rattle.std.proofs.Common.{arith, drop, length-drop, ap, ◌∙◌}
use Rattle.std.proofs.lemmas.List.{take_all}
use Rattle.zy_ots.proofs.chain_block.ChainBlock.value.Goals as goal

pub returns : goal.returns
returns c =
    let whole = c.self.told in
    take_all 32 (drop 23 c.self.inside.bytes) (omega (arith, length-drop 23 c.self.inside.bytes)) ∙ ap (λ b. b.value) c.self.view_is
