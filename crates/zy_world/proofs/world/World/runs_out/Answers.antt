use Rattle.std.proofs.Common.{sym, ◌∙◌, subst}
use Rattle.std.specs.Prelude.{IfOk, IfErr}
use Rattle.zy_world.specs.Answered.{GoesTo, IsBrokenBy}
use Rattle.zy_world_law.specs.Events.{Happened}
use Rattle.zy_world.proofs.Heard.{timed, untimed}
use Rattle.zy_world.proofs.world.World.runs_out.Goals as goal

pub returns-then-has_timer-clause-goes : goal.returns-then-has_timer-clause-goes
returns-then-has_timer-clause-goes g c w s =
    subst (λ (h : Happened g.row.M-State.Denot). IfOk c.steps.result (λ r. GoesTo h r.note r.world))
    (sym (timed g.M.Machine.rules w c.args.party c.args.kind (sym c.has_timer.ensures ∙ c.if-has_timer.true))) (c.steps.ensures.goes w s)

pub returns-then-has_timer-clause-broken : goal.returns-then-has_timer-clause-broken
returns-then-has_timer-clause-broken g c w s =
    subst (λ (h : Happened g.row.M-State.Denot). IfErr c.steps.result (IsBrokenBy h))
    (sym (timed g.M.Machine.rules w c.args.party c.args.kind (sym c.has_timer.ensures ∙ c.if-has_timer.true))) (c.steps.ensures.broken w s)

pub returns-else-has_timer-clause-goes : goal.returns-else-has_timer-clause-goes
returns-else-has_timer-clause-goes g c w s =
    rw (c.answered.ensures.world, c.answered.ensures.note)
    (subst (λ (h : Happened g.row.M-State.Denot). GoesTo h c.no_subject.result.note c.no_subject.result.world)
    (sym (untimed g.M.Machine.rules w c.args.party c.args.kind (sym c.has_timer.ensures ∙ c.if-has_timer.false))) (c.no_subject.ensures.goes w (λ xs. xs) s))

pub returns-then-has_timer-clause-answer : goal.returns-then-has_timer-clause-answer
returns-then-has_timer-clause-answer g c = rw (sym c.has_timer.ensures ∙ c.if-has_timer.true) c.steps.ensures.answer

pub returns-else-has_timer-clause-answer : goal.returns-else-has_timer-clause-answer
returns-else-has_timer-clause-answer g c = rw (sym c.has_timer.ensures ∙ c.if-has_timer.false) c.answered.ensures.answer
