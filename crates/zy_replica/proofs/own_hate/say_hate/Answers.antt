use Rattle.std.proofs.Common.{◌≡◌, IfOk, Option, None, ap, sym, ◌∙◌, subst}
use Rattle.zy_parts.specs.Signing.{IsSignedInRange}
use Rattle.zy_parts.specs.Statements.{IsHateInRange}
use Rattle.zy_parts.specs.declared.signed.Signed.{Signed}
use Rattle.zy_parts.specs.declared.statements.Hate.{Hate}
use Rattle.zy_frames.specs.declared.frame.Frame.TheVariants as frames
use Rattle.zy_table.specs.declared.deeds.Act.TheVariants.{Says}
use Rattle.zy_table.specs.declared.deeds.Body.TheVariants as bodies
use Rattle.zy_table.specs.declared.deeds.To.TheVariants.{All}
use Rattle.zy_table.specs.State.{State}
use Rattle.zy_table.specs.Deeds.{Going, act, send}
use Rattle.zy_table.specs.Hates.{hate_now, own_hate, say_hate}
use Rattle.zy_replica.proofs.OwnHateLemmas.{is_now, said_first}
use Rattle.zy_replica.proofs.own_hate.say_hate.Goals as goal

pub send-requires : goal.send-requires
send-requires g c = subst (IsSignedInRange IsHateInRange) (sym c.in_ok-again.ensures) (c.in-Some.ensures.range c.in-Some.said.now (sym c.in-Some.ensures.said))

pub returns : goal.returns
returns g c =
    let R = g.M.Machine.rules in
    let s = c.progress.inside.core in
    let deeds = c.progress.inside.deeds in
    let hate : Hate = record { view = c.view.result } in
    let now : hate ≡ hate_now s = is_now s hate c.view.ensures.view in
    let says = λ (core : State g.row.M-State.Denot). act (Says (record { body = bodies.Hate hate; stood = c.stood-stood.result })) (record { state = core; deeds = deeds }) in
    let first = said_first R (record { state = s; deeds = deeds }) c.in_ok-core.core c.in_ok-core.signed c.in_ok-copy.copy hate c.stood-stood.result c.in_ok-core.ensures.core now c.in_ok-core.ensures.value c.in_ok-copy.ensures c.stood-stood.ensures in
    subst (λ (x : Going g.row.M-State.Denot). IfOk c.send-2.result (λ (m : Going g.row.M-State.Denot). m ≡ x))
    (ap (send All (frames.Hate c.in_ok-core.signed)) (c.in_ok-said.ensures ∙ ap says c.keep_hate-core.ensures)
    ∙ first
    ∙ ap (λ (o : Option (Signed Hate)). say_hate R o (record { state = s; deeds = deeds })) c.in_default.ensures.said
    ∙ ap (λ (x : Going g.row.M-State.Denot). say_hate R (own_hate x.state) x) c.progress.view_is)
    c.send-2.ensures
