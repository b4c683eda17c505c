use Rattle.std.proofs.Common.{◌≡◌, subst, ◌∙◌, ap}
use Rattle.std.specs.Prelude.{IfOk}
use Rattle.zy_table.specs.Deeds.{Going}
use Rattle.zy_table.specs.Gathering.{owes_check}
use Rattle.zy_replica_normal.proofs.GatherLemmas.{gathered_is}
use Rattle.zy_replica_normal.proofs.gathering.gather.Goals as goal

pub returns : goal.returns
returns g c =
    let own = c.args.own.now in
    let owes = c.owes_check-owes.ensures ∙ ap (λ (x : Going g.row.M-State.Denot). owes_check x.state own c.args.brought) c.progress.view_is in
    let same =
    gathered_is g.M.Machine.rules own c.args.brought c.owes_check-owes.result c.args.progress c.in_ok-progress.progress c.in_ok-progress-2.progress owes c.in_ok-progress.ensures.progress c.in_ok-progress-2.ensures.progress in
    subst (λ (x : Going g.row.M-State.Denot). IfOk c.settle_own.result (λ (end : Going g.row.M-State.Denot). end ≡ x)) same c.settle_own.ensures
