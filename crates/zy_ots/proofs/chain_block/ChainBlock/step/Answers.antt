use Rattle.std.proofs.Common.{◌≡◌, length, refl, ◌∙◌}
use Rattle.sha2.proofs.Facts256.{length-sha256}
use Rattle.zy_ots.proofs.BlockLemmas.{stepped_key, stepped_index, stepped_value, step_input}
use Rattle.zy_ots.proofs.chain_block.ChainBlock.step.Goals as goal

pub returns : goal.returns
returns c =
    let whole = c.self.told in
    let value = c.copy_from_slice.ensures.after ∙ c.digest-digest.ensures in
    let rest : length c.copy_from_slice.new.self ≡ 32 = rw value (length-sha256 _) in
    let bytes = c.self.inside.bytes in
    let new_value = c.copy_from_slice.new.self in
    rw (← c.self.view_is, stepped_key bytes new_value c.args.number whole rest, stepped_index bytes new_value c.args.number whole rest, stepped_value bytes new_value c.args.number whole rest, value, step_input bytes new_value c.args.number whole rest) refl
