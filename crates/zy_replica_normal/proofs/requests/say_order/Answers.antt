use Rattle.std.proofs.Common.{◌≡◌, IfOk, ◌∙◌, ap, subst}
use Rattle.zy_frames.specs.declared.frame.Frame.TheVariants as frames
use Rattle.zy_table.specs.declared.deeds.Act.TheVariants.{Says}
use Rattle.zy_table.specs.declared.deeds.Body.TheVariants as bodies
use Rattle.zy_table.specs.declared.deeds.To.TheVariants.{All}
use Rattle.zy_table.specs.Deeds.{Going, act, begin, send}
use Rattle.zy_table.specs.State.{State}
use Rattle.zy_replica_normal.proofs.requests.say_order.Goals as goal

pub returns : goal.returns
returns g c =
    subst (λ (x : Going g.row.M-State.Denot). IfOk c.send_order.result (λ (m : Going g.row.M-State.Denot). m ≡ x))
    (ap (send All (frames.Order c.args.frame.now))
    (c.in_ok-says.ensures
    ∙ ap (act (Says (record { body = bodies.Order c.args.frame.now.order.stmt; stood = c.args.stood })))
    (c.begin.ensures ∙ ap (λ (s : State g.row.M-State.Denot). begin s) c.in_ok-keep_copy.ensures)))
    c.send_order.ensures
