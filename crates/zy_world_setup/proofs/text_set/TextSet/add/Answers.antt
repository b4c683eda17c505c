use Rattle.std.proofs.Common.{◌||◌, Bool, sym, ap, ◌∙◌}
use Rattle.std.specs.List.{list_any}
use Rattle.std.specs.Str.{bytes_eq}
use Rattle.std.proofs.lemmas.Slice.Eq.{bytes_eq-Decides}
use Rattle.zy_world_setup.proofs.ListLemmas.{any_mapped, any_last}
use Rattle.zy_world_setup.proofs.text_set.TextSet.add.Goals as goal

pub returns : goal.returns
returns c q =
    let text = c.args.text.items in
    sym (any_mapped (bytes_eq q) (λ key. key.items) _)
    ∙ c.in_ok-put_key.ensures (λ key. bytes_eq q key.items) (λ key same. ap (bytes_eq q) (sym ((bytes_eq-Decides text key.items).0 same)))
    ∙ ap (λ (b : Bool). bytes_eq q text || b) (any_mapped (bytes_eq q) (λ key. key.items) _ ∙ ap (list_any (bytes_eq q)) c.self.view_is)
    ∙ any_last q text _
