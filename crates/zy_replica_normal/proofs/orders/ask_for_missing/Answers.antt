use Rattle.std.proofs.Common.{◌≡◌, IfOk, ◌∙◌, ap, subst}
use Rattle.zy_base.specs.declared.ids.Party.{Party}
use Rattle.zy_base.specs.declared.step.Stood.{Stood}
use Rattle.zy_parts.specs.Numbers as numbers
use Rattle.zy_parts.specs.Statements.{hole_fields}
use Rattle.zy_parts.specs.declared.signed.Signed.{Signed}
use Rattle.zy_parts.specs.declared.statements.Hole.{Hole}
use Rattle.zy_frames.specs.declared.frame.Frame.TheVariants as frames
use Rattle.zy_seal.specs.Sealing.{sealed_by}
use Rattle.zy_table.specs.declared.deeds.Act.TheVariants.{Says}
use Rattle.zy_table.specs.declared.deeds.Body.TheVariants as bodies
use Rattle.zy_table.specs.declared.deeds.To.TheVariants.{One}
use Rattle.zy_table.specs.Deeds.{Going, act, begin, send}
use Rattle.zy_table.specs.Orders.{hole_of}
use Rattle.zy_table.specs.State.{State, own_view, primary_of, stood_of}
use Rattle.zy_replica_normal.proofs.orders.ask_for_missing.Goals as goal

pub returns : goal.returns
returns g c =
    let said = sealed_by numbers.hole hole_fields c.args.core.sealer (hole_of c.args.core) in
    let begun = c.begin.ensures ∙ ap (λ (s : State g.row.M-State.Denot). begin s) c.in_ok-core.ensures.core in
    subst (λ (x : Going g.row.M-State.Denot). IfOk c.send_hole.result (λ (m : Going g.row.M-State.Denot). m ≡ x))
    (ap (λ (to : Party). send (One to) (frames.FillHole c.in_ok-core.signed) c.in_ok-progress.progress) c.primary.ensures
    ∙ ap (λ (x : Signed Hole). send (One (primary_of c.args.core.counts (own_view c.args.core))) (frames.FillHole x) c.in_ok-progress.progress) c.in_ok-core.ensures.hole
    ∙ ap (send (One (primary_of c.args.core.counts (own_view c.args.core))) (frames.FillHole said))
    (c.in_ok-progress.ensures
    ∙ ap (λ (x : Signed Hole). act (Says (record { body = bodies.Hole x.stmt; stood = c.stood-stood.result })) c.begin.result) c.in_ok-core.ensures.hole
    ∙ ap (λ (s : Stood). act (Says (record { body = bodies.Hole (hole_of c.args.core); stood = s })) c.begin.result) c.stood-stood.ensures
    ∙ ap (act (Says (record { body = bodies.Hole (hole_of c.args.core); stood = stood_of g.M.Machine.rules c.args.core }))) begun))
    c.send_hole.ensures
