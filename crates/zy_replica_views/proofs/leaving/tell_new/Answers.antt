use Rattle.std.proofs.Common.{◌≡◌, ◌∙◌, ap, subst}
use Rattle.std.specs.Prelude.{IfOk}
use Rattle.zy_parts.specs.declared.reports.New.{New}
use Rattle.zy_parts.specs.declared.signed.Signed.{Signed}
use Rattle.zy_vframes.specs.declared.frame.ViewFrame.TheVariants as frames
use Rattle.zy_table.specs.declared.deeds.Body.TheVariants as bodies
use Rattle.zy_table.specs.declared.deeds.To.TheVariants.{All}
use Rattle.zy_table.specs.State.{stood_of}
use Rattle.zy_table.specs.Deeds.{Going, send_view}
use Rattle.zy_replica_views.proofs.CarryLemmas.{told_all}
use Rattle.zy_replica_views.proofs.leaving.tell_new.Goals as goal

pub returns : goal.returns
returns g c =
    let R = g.M.Machine.rules in
    let same =
    ap (λ (copy : Signed New). send_view All (frames.NewView copy) c.in_ok-progress.progress) c.in_ok-copy.ensures
    ∙ told_all R c.args.progress c.in_ok-progress.progress (frames.NewView c.args.new.now) (bodies.New c.in_ok-stmt.stmt) (bodies.New c.args.new.now.stmt) c.stood-stood.result c.in_ok-progress.ensures (ap bodies.New c.in_ok-stmt.ensures)
    (c.stood-stood.ensures ∙ ap (λ (x : Going g.row.M-State.Denot). stood_of R x.state) c.progress.view_is) in
    subst (λ (x : Going g.row.M-State.Denot). IfOk c.send_view.result (λ (end : Going g.row.M-State.Denot). end ≡ x)) same c.send_view.ensures
