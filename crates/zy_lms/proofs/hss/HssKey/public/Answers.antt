use Rattle.std.proofs.Common.{◌≡◌, ◌∙◌, length, refl}
use Rattle.zy_lms.specs.Hss.{hss_public_of}
use Rattle.zy_lms.proofs.FillLemmas.{two_filled}
use Rattle.zy_lms.proofs.HssLemmas.{public-at_leaf}
use Rattle.zy_lms.proofs.hss.HssKey.public.Goals as goal

pub returns : goal.returns
unfolding hss_public_of
returns c =
    let levels = c.copy_from_slice.ensures.after ∙ c.to_be_bytes.ensures in
    let top = c.copy_from_slice-2.ensures.after ∙ c.public.ensures in
    let four : length c.copy_from_slice.new.self ≡ 4 = rw levels refl in
    two_filled c.copy_from_slice.new.self c.copy_from_slice-2.new.self _ four refl
    ∙ rw (levels, top, ← c.self.view_is, public-at_leaf c.self.inside.top c.self.inside.next) refl
