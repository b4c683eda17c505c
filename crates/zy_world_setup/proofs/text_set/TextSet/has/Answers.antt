use Rattle.std.proofs.Common.{ap, ◌∙◌}
use Rattle.std.specs.List.{list_any}
use Rattle.std.specs.Str.{bytes_eq}
use Rattle.zy_world_setup.proofs.ListLemmas.{any_mapped}
use Rattle.zy_world_setup.proofs.text_set.TextSet.has.Goals as goal

pub returns : goal.returns
returns c =
    let text = c.args.text.now in
    c.contains.ensures
    ∙ any_mapped (bytes_eq text) (λ key. key.items) _
    ∙ ap (list_any (bytes_eq text)) c.self.view_is
