use Rattle.std.proofs.Common.{◌≡◌, IfOk, ◌∙◌, ap, subst}
use Rattle.zy_base.specs.declared.step.Stood.{Stood}
use Rattle.zy_parts.specs.Numbers as numbers
use Rattle.zy_parts.specs.Statements.{local_fields}
use Rattle.zy_parts.specs.declared.signed.Signed.{Signed}
use Rattle.zy_parts.specs.declared.statements.Local.{Local}
use Rattle.zy_seal.specs.Sealing.{sealed_by}
use Rattle.zy_table.specs.declared.deeds.Act.TheVariants.{Says}
use Rattle.zy_table.specs.declared.deeds.Body.TheVariants as bodies
use Rattle.zy_table.specs.Commits.{send_local}
use Rattle.zy_table.specs.Deeds.{Going, act, begin}
use Rattle.zy_table.specs.State.{State, stood_of}
use Rattle.zy_replica_normal.proofs.commits.say_local.Goals as goal

pub returns : goal.returns
returns g c =
    let said = sealed_by numbers.local local_fields c.args.core.sealer c.args.local in
    let begun = c.begin.ensures ∙ ap (λ (s : State g.row.M-State.Denot). begin s) c.in_ok-core.ensures.core in
    subst (λ (x : Going g.row.M-State.Denot). IfOk c.send_local.result (λ (m : Going g.row.M-State.Denot). m ≡ x))
    (ap (λ (x : Signed Local). send_local c.args.client x c.in_ok-progress.progress) c.in_ok-core.ensures.local
    ∙ ap (send_local c.args.client said)
    (c.in_ok-progress.ensures
    ∙ ap (λ (s : Stood). act (Says (record { body = bodies.Local c.args.local; stood = s })) c.begin.result) c.stood-stood.ensures
    ∙ ap (act (Says (record { body = bodies.Local c.args.local; stood = stood_of g.M.Machine.rules c.args.core }))) begun))
    c.send_local.ensures
