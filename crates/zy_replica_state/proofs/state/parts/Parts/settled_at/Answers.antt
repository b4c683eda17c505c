use Rattle.std.proofs.Common.{ap, ◌∙◌}
use Rattle.std.specs.Prelude.{nat_le, filter}
use Rattle.zy_parts.specs.declared.signed.Signed.{Signed}
use Rattle.zy_parts.specs.declared.statements.Local.{Local}
use Rattle.zy_check.specs.Board.{with_stable}
use Rattle.zy_table.specs.Gathering.{settled_at}
use Rattle.zy_replica_state.proofs.ReadyLemmas.{settled_with}
use Rattle.zy_replica_state.proofs.state.parts.Parts.settled_at.Goals as goal

pub returns : goal.returns
returns g c =
    let R = g.M.Machine.rules in
    let place = c.args.place.0 in
    let stays = λ (said : Signed Local). nat_le place said.stmt.place.0 in
    settled_with R _ place c.args.proof _ _ _ _ c.settle.ensures c.cut_below.ensures (c.set_stable.ensures ∙ ap (with_stable _) c.into_vec.ensures)
    (c.locals_from.ensures ∙ ap (filter stays) c.replace-locals.ensures.value)
    ∙ ap (settled_at R place c.args.proof) c.self.view_is
