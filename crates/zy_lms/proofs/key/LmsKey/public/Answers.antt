use Rattle.std.proofs.Common.{arith, ◌≡◌, ◌∙◌, length, refl, ap}
use Rattle.zy_lms.specs.Lms.{public_of}
use Rattle.zy_lms.specs.Height.{levels_of}
use Rattle.zy_lms.specs.Tree.{root_of}
use Rattle.zy_lms.proofs.FillLemmas.{public_filled, room_for_id}
use Rattle.zy_lms.proofs.key.LmsKey.public.Goals as goal

pub returns : goal.returns
unfolding public_of
returns c =
    let key = c.self.inside in
    let h = levels_of key.height in
    let height = c.copy_from_slice.ensures.after ∙ c.to_be_bytes.ensures in
    let ots = c.copy_from_slice-2.ensures.after ∙ c.to_be_bytes-2.ensures in
    let root : c.copy_from_slice-4.new.self ≡ root_of key.ots key.id key.seed h =
    c.copy_from_slice-4.ensures.after ∙ ap (λ d. d.0) c.index.ensures
    ∙ c.self.invariant.1.node h 0 1 c.index.result.now (omega arith) (omega arith) (omega arith) (omega arith) in
    let four : length c.copy_from_slice.new.self ≡ 4 = rw height refl in
    let four' : length c.copy_from_slice-2.new.self ≡ 4 = rw ots refl in
    let sixteen : length c.copy_from_slice-3.new.self ≡ 16 =
    c.copy_from_slice-3.ensures.len ∙ room_for_id c.copy_from_slice.new.self c.copy_from_slice-2.new.self _ four four' refl in
    public_filled c.copy_from_slice.new.self c.copy_from_slice-2.new.self c.copy_from_slice-3.new.self c.copy_from_slice-4.new.self _ four four' sixteen refl
    ∙ rw (← c.self.view_is, height, ots, c.copy_from_slice-3.ensures.after, root, c.number.ensures, c.number-2.ensures) refl
