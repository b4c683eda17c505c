use Rattle.std.proofs.Common.{◌≡◌, IfOk, ap, sym, subst, ◌∙◌}
use Rattle.zy_base.specs.declared.cause.Cause.{Cause}
use Rattle.zy_base.specs.declared.step.Answer.TheVariants.{Refused}
use Rattle.zy_table.proofs.Refusals.{step_stays}
use Rattle.zy_table.specs.Deeds.{Outcome, outgoing_of, refused}
use Rattle.zy_table.specs.State.{State}
use Rattle.zy_table.specs.Whole.{whole_step}
use Rattle.zy_replica.proofs.RefusedLemmas.{refused_unchanged}
use Rattle.zy_replica.proofs.replica.Replica.step.Goals as goal

pub returns-clause-out : goal.returns-clause-out
returns-clause-out g c =
    subst (λ (o : Outcome g.row.M-State.Denot). IfOk c.finish.result (λ s. s.out ≡ outgoing_of o.state.me.0 o.state.counts.n o.deeds.sent))
    (c.in_ok-moves.ensures ∙ ap (λ (s : State g.row.M-State.Denot). whole_step g.M.Machine.rules s c.args.event) c.self.view_is)
    c.finish.ensures.out

pub returns-clause-refused : goal.returns-clause-refused
returns-clause-refused g c =
    let R = g.M.Machine.rules in
    let same = c.in_ok-moves.ensures ∙ ap (λ (s : State g.row.M-State.Denot). whole_step R s c.args.event) c.self.view_is in
    refused_unchanged c.finish.result c.args.self _
    (subst (λ (o : Outcome g.row.M-State.Denot). (cause : Cause) → o.answer ≡ Refused cause → o ≡ refused cause c.args.self) (sym same) (step_stays R c.args.self c.args.event))
    (λ s. s.answer) (λ s. s.replica) (λ s. s.timers) (λ s. s.out) (λ s. s.said) (λ s. s.got)
    c.finish.ensures.answer c.finish.ensures.replica c.finish.ensures.timers c.finish.ensures.out c.finish.ensures.said c.finish.ensures.got
