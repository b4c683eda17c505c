use Rattle.std.proofs.Common.{◌≡◌, IfOk, subst}
use Rattle.zy_table.specs.Deeds.{Going}
use Rattle.zy_replica_views.proofs.RespondLemmas.{alone_is}
use Rattle.zy_replica_views.proofs.responding.respond_alone.Goals as goal

pub returns : goal.returns
returns g c =
    let same = alone_is g.M.Machine.rules c.args.own.now c.args.answers c.args.progress c.in_ok-said.said c.in_ok-kept.kept c.in_ok-told.told c.in_ok-said.signed c.in_ok-said.ensures.spec c.in_ok-said.ensures.progress c.in_ok-kept.ensures c.in_ok-told.ensures in
    subst (λ (x : Going g.row.M-State.Denot). IfOk c.send_spec.result (λ (end : Going g.row.M-State.Denot). end ≡ x)) same c.send_spec.ensures
