use Rattle.std.proofs.Common.{◌≡◌, length, refl, ◌∙◌}
use Rattle.zy_ots.proofs.CoefLemmas.{with_two}
use Rattle.zy_ots.proofs.digits.with_checksum.Goals as goal

pub returns : goal.returns
returns c =
    let digest = c.copy_from_slice.ensures.after in
    let two = c.copy_from_slice-2.ensures.after ∙ c.to_be_bytes.ensures in
    let pair : length c.copy_from_slice-2.new.self ≡ 2 = rw two refl in
    with_two _ _ c.copy_from_slice.ensures.len pair ∙ rw (digest, two, c.checksum.ensures) refl
