use Rattle.std.proofs.Common.{◌∙◌, ap, rules}
use Rattle.std.specs.Prelude.{nat_le, filter}
use Rattle.std.proofs.lemmas.Fn.{filter_same}
use Rattle.zy_parts.specs.declared.signed.Signed.{Signed}
use Rattle.zy_parts.specs.declared.statements.Local.{Local}
use Rattle.zy_replica_state.proofs.checkpoints.locals_from.Goals as goal

pub returns : goal.returns
returns c =
    let stays = λ (said : Signed Local). nat_le c.args.place.0 said.stmt.place.0 in
    c.from.ensures ∙ filter_same _ stays _ (λ x b f k. search rules) _ _ c.retain.ensures.filtered ∙ ap (filter stays) c.into_vec-kept.ensures
