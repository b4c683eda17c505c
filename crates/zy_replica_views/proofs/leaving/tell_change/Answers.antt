use Rattle.std.proofs.Common.{◌≡◌, ◌∙◌, ap, subst}
use Rattle.std.specs.Prelude.{IfOk}
use Rattle.zy_vframes.specs.declared.frame.ViewFrame.TheVariants as frames
use Rattle.zy_table.specs.declared.deeds.Body.TheVariants as bodies
use Rattle.zy_table.specs.State.{stood_of}
use Rattle.zy_table.specs.Deeds.{Going}
use Rattle.zy_replica_views.proofs.CarryLemmas.{told_all}
use Rattle.zy_replica_views.proofs.leaving.tell_change.Goals as goal

pub returns : goal.returns
returns g c =
    let same =
    told_all g.M.Machine.rules c.args.progress c.in_ok-progress.progress (frames.ViewChange c.args.change) (bodies.Change c.in_ok-stmt.stmt) (bodies.Change c.args.change.stmt) c.stood-stood.result c.in_ok-progress.ensures (ap bodies.Change (c.in_ok-stmt.ensures))
    (c.stood-stood.ensures ∙ ap (λ (x : Going g.row.M-State.Denot). stood_of g.M.Machine.rules x.state) c.progress.view_is) in
    subst (λ (x : Going g.row.M-State.Denot). IfOk c.send_view.result (λ (end : Going g.row.M-State.Denot). end ≡ x)) same c.send_view.ensures
