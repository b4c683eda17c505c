use Rattle.std.proofs.Common.{◌≡◌, length, refl, ◌∙◌}
use Rattle.zy_ots.proofs.BlockLemmas.{new_key}
use Rattle.zy_ots.proofs.chain_block.ChainBlock.new.Goals as goal

pub returns : goal.returns
returns c =
    let id = c.copy_from_slice.ensures.after in
    let leaf = c.copy_from_slice-2.ensures.after ∙ c.to_be_bytes.ensures in
    let four : length c.copy_from_slice-2.new.self ≡ 4 = rw leaf refl in
    new_key _ _ _ c.copy_from_slice.ensures.len four ∙ rw (id, leaf) refl
