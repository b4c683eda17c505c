use Rattle.std.proofs.Common.{◌≡◌, IfOk, sym, ap, ◌∙◌, subst}
use Rattle.zy_table.specs.declared.deeds.Verdict.TheVariants.{Take}
use Rattle.zy_table.specs.Adopting.{verdict_of}
use Rattle.zy_table.specs.Beginning.{begin_view}
use Rattle.zy_table.specs.Deeds.{Going}
use Rattle.zy_replica_views.proofs.BeginLemmas.{begun_with}
use Rattle.zy_replica_views.proofs.beginning.begin_view.Goals as goal

pub begin_view-requires-clause-takes : goal.begin_view-requires-clause-takes
begin_view-requires-clause-takes g c = λ provider there.
    subst (λ (x : Going g.row.M-State.Denot). verdict_of g.M.Machine.rules x.state.kept x.state.board.stable provider.stmt.told c.args.chosen.place c.args.chosen.head ≡ Take) (sym c.progress.view_is) (c.requires.takes provider there)

pub returns : goal.returns
returns g c = λ provider there.
    let R = g.M.Machine.rules in
    let before : Going g.row.M-State.Denot = record { state = c.progress.inside.core; deeds = c.progress.inside.deeds } in
    let same =
    begun_with R c.args.cert c.args.chosen provider.stmt.told before c.in_ok-core.core c.in_ok-core.common c.in_ok-core.gots (c.in_ok-core.ensures.core provider there) (c.in_ok-core.ensures.common provider there) (c.in_ok-core.ensures.gained provider there)
    ∙ ap (begin_view R c.args.cert c.args.chosen provider.stmt.told) c.progress.view_is in
    subst (λ (x : Going g.row.M-State.Denot). IfOk c.adopts.result (λ (end : Going g.row.M-State.Denot). end ≡ x)) same c.adopts.ensures
