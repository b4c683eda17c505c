use Rattle.std.proofs.Common.{◌≡◌, ◌+◌, ◌^◌, ◌++◌}
use Rattle.std.specs.Int.{to_be_bytes, w32}
use Rattle.std.specs.List.{concat}
use Rattle.std.proofs.lemmas.Result.{IfOk-weaker}
use Rattle.zy_lms.specs.Height.{levels_of, type_number_of}
use Rattle.zy_lms.specs.Lms.{signature_of}
use Rattle.zy_lms.specs.Tree.{path_from}
use Rattle.zy_ots.specs.OneTime as OneTime
use Rattle.zy_lms.proofs.LmsLemmas.{four_behind}
use Rattle.zy_lms.proofs.key.LmsKey.signature_onto.Goals as goal

pub returns : goal.returns
unfolding signature_of
returns c =
    let key = c.self.inside in
    let h = levels_of key.height in
    let leaf = c.args.leaf in
    IfOk-weaker c.path_onto.result
    (λ v. v.items ≡ c.extend_from_slice-2.new.self.items ++ concat (path_from key.ots key.id key.seed h 0 h (c.leaf_count.result + leaf))) _
    (λ v is. rw (is, c.in_ok-extend_from_slice-2.ensures.items, c.in_ok-out.ensures, c.in_ok-extend_from_slice.ensures.items, c.to_be_bytes.ensures, c.to_be_bytes-2.ensures, c.number.ensures, c.leaf_count.ensures, ← c.self.view_is)
    (four_behind c.args.out.items (to_be_bytes w32 leaf) (OneTime.signature_of key.ots key.id leaf key.seed c.args.message.now) (to_be_bytes w32 (type_number_of key.height)) (concat (path_from key.ots key.id key.seed h 0 h (2 ^ h + leaf)))))
    (c.path_onto.ensures key.ots key.id key.seed (rw c.deref.ensures.value c.self.invariant.1))
