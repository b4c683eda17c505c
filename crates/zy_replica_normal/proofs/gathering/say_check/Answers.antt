use Rattle.std.proofs.Common.{◌≡◌, IfOk, ◌∙◌, ap, subst}
use Rattle.zy_frames.specs.declared.frame.Frame.TheVariants as frames
use Rattle.zy_parts.specs.Numbers as numbers
use Rattle.zy_parts.specs.Statements.{check_fields}
use Rattle.zy_parts.specs.declared.signed.Signed.{Signed}
use Rattle.zy_parts.specs.declared.statements.Check.{Check}
use Rattle.zy_seal.specs.Sealing.{sealed_by}
use Rattle.zy_table.specs.declared.deeds.Act.TheVariants.{Says}
use Rattle.zy_table.specs.declared.deeds.Body.TheVariants as bodies
use Rattle.zy_base.specs.declared.step.Stood.{Stood}
use Rattle.zy_table.specs.declared.deeds.To.TheVariants.{All}
use Rattle.zy_table.specs.Deeds.{Going, act, send}
use Rattle.zy_table.specs.Gathering.{say_check}
use Rattle.zy_table.specs.State.{State, stood_of}
use Rattle.zy_replica_normal.proofs.gathering.say_check.Goals as goal

pub returns : goal.returns
returns g c =
    let R = g.M.Machine.rules in
    let own = c.args.own.now in
    let core = c.progress.inside.core in
    let deeds = c.progress.inside.deeds in
    subst (λ (p : Going g.row.M-State.Denot). IfOk c.send_check.result (λ (m : Going g.row.M-State.Denot). m ≡ say_check R own p)) c.progress.view_is
    (subst (λ (x : Going g.row.M-State.Denot). IfOk c.send_check.result (λ (m : Going g.row.M-State.Denot). m ≡ x))
    (ap (λ (signed : Signed Check). send All (frames.Checkpoint signed) c.in_ok-progress.progress) c.in_ok-core.ensures.check
    ∙ ap (send All (frames.Checkpoint (sealed_by numbers.check check_fields core.sealer own)))
    (c.in_ok-progress.ensures
    ∙ ap (λ (stood : Stood). act (Says (record { body = bodies.Check own; stood = stood })) (record { state = c.in_ok-core.core; deeds = deeds })) c.stood-stood.ensures
    ∙ ap (λ (s : State g.row.M-State.Denot). act (Says (record { body = bodies.Check own; stood = stood_of R core })) (record { state = s; deeds = deeds })) c.in_ok-core.ensures.core))
    c.send_check.ensures)
