use Rattle.std.proofs.Common.{◌≡◌, ◌∙◌, length, refl}
use Rattle.zy_lms.proofs.FillLemmas.{two_filled}
use Rattle.zy_group.proofs.fields.with_levels.Goals as goal

pub returns : goal.returns
returns c =
    let levels = c.copy_from_slice.ensures.after ∙ c.to_be_bytes.ensures in
    let four : length c.copy_from_slice.new.self ≡ 4 = rw levels refl in
    two_filled c.copy_from_slice.new.self c.copy_from_slice-2.new.self _ four refl
    ∙ rw (levels, c.copy_from_slice-2.ensures.after) refl
