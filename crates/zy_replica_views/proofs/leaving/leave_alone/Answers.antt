use Rattle.std.proofs.Common.{◌≡◌, IfOk, ap, ◌∙◌, subst}
use Rattle.zy_table.specs.Deeds.{Going}
use Rattle.zy_table.specs.Leaving.{leave_alone}
use Rattle.zy_replica_views.proofs.CarryLemmas.{left_is}
use Rattle.zy_replica_views.proofs.leaving.leave_alone.Goals as goal

pub returns : goal.returns
returns g c =
    let R = g.M.Machine.rules in
    let same = left_is R c.args.view (record { state = c.progress.inside.core; deeds = c.progress.inside.deeds }) c.in_ok-core.core c.in_ok-core.change c.in_ok-core.ensures.core c.in_ok-core.ensures.change ∙ ap (leave_alone R c.args.view) c.progress.view_is in
    subst (λ (x : Going g.row.M-State.Denot). IfOk c.tell_change.result (λ (end : Going g.row.M-State.Denot). end ≡ x)) same c.tell_change.ensures
