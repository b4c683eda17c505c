use Rattle.std.proofs.Common.{◌≡◌, IfOk, subst}
use Rattle.zy_table.specs.Deeds.{Going}
use Rattle.zy_replica_views.proofs.waiting.ask_each.Goals as goal

pub returns : goal.returns
returns g c =
    subst (λ (x : Going g.row.M-State.Denot). IfOk c.send_to_each.result (λ (end : Going g.row.M-State.Denot). end ≡ x)) (c.in_ok-progress.ensures.asks c.args.asked.now) c.send_to_each.ensures
