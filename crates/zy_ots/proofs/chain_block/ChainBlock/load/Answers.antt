use Rattle.std.proofs.Common.{◌≡◌, length, refl, ◌∙◌}
use Rattle.zy_ots.proofs.BlockLemmas.{loaded_key, loaded_index, loaded_value}
use Rattle.zy_ots.proofs.chain_block.ChainBlock.load.Goals as goal

pub returns : goal.returns
returns c =
    let whole = c.self.told in
    let index = c.copy_from_slice.ensures.after ∙ c.to_be_bytes.ensures in
    let value = c.copy_from_slice-2.ensures.after in
    let two : length c.copy_from_slice.new.self ≡ 2 = rw index refl in
    let rest : length c.copy_from_slice-2.new.self ≡ 32 = rw value c.requires in
    let bytes = c.self.inside.bytes in
    let new_index = c.copy_from_slice.new.self in
    let new_value = c.copy_from_slice-2.new.self in
    rw (← c.self.view_is, loaded_key bytes new_index new_value whole two rest, loaded_index bytes new_index new_value whole two rest, loaded_value bytes new_index new_value whole two rest, index, value) refl
