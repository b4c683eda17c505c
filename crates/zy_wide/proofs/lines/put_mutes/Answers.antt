use Rattle.std.proofs.Common.{◌+◌, ◌++◌, ◌∷◌, [], append_assoc, ap, refl, sym, ◌∙◌}
use Rattle.std.specs.Prelude.{map}
use Rattle.std.specs.List.{range_with_len}
use Rattle.std.proofs.lemmas.List.FromFn.{map-range_with_len_more}
use Rattle.zy_wide.specs.Calm.{mute_line}
use Rattle.zy_wide.proofs.lines.put_mutes.Goals as goal

pub loop-place-preserved : goal.loop-place-preserved
loop-place-preserved c =
    let before = c.args.lines.now.items in
    let first = c.args.first in
    let place = c.loop-place.place in
    c.in_ok-push.ensures.items ∙ ap (λ lines. lines ++ mute_line (first + place) ∷ []) c.loop-place.invariant
    ∙ append_assoc before (map mute_line (range_with_len first place)) (mute_line (first + place) ∷ [])
    ∙ ap (λ lines. before ++ lines) (sym (map-range_with_len_more mute_line first place (first + place) refl))
