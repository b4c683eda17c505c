use Rattle.std.proofs.Common.{◌≡◌, IfOk, Some, ◌∙◌, ap, subst}
use Rattle.zy_table.specs.declared.deeds.Act.TheVariants.{Says}
use Rattle.zy_table.specs.declared.deeds.Body.TheVariants as bodies
use Rattle.zy_table.specs.declared.kept.Pending.{Pending}
use Rattle.zy_table.specs.Deeds.{Going, act, begin}
use Rattle.zy_table.specs.State.{State, with_pending}
use Rattle.zy_replica_normal.proofs.requests.say_confirm.Goals as goal

pub returns : goal.returns
returns g c =
    subst (λ (x : Going g.row.M-State.Denot). IfOk c.says.result (λ (m : Going g.row.M-State.Denot). m ≡ x))
    (ap (act (Says (record { body = bodies.Confirm c.args.pending.now.confirm.stmt; stood = c.args.stood })))
    (c.begin.ensures ∙ ap (λ (s : State g.row.M-State.Denot). begin s)
    (c.keep_pending.ensures ∙ ap (λ (p : Pending). with_pending c.args.core c.args.client (Some p)) c.in_ok-copy.ensures)))
    c.says.ensures
