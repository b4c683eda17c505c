use Rattle.std.proofs.Common.{◌≡◌, sym, ◌∙◌, subst, None}
use Rattle.std.proofs.lemmas.Result.{err_from_is_err_and}
use Rattle.std.specs.Prelude.{IfOk, IfErr}
use Rattle.zy_world.specs.Answered.{GoesTo, IsBrokenBy}
use Rattle.zy_world.specs.Shown.{Shown, Seated}
use Rattle.zy_world.specs.Shows.{Shows}
use Rattle.zy_world_law.specs.Events.{Happened}
use Rattle.zy_world_law.specs.World.{World, delivered}
use Rattle.zy_world.proofs.Heard.{brought_heard, brought_unheard, brought_liar, brought_nobody}
use Rattle.zy_world.proofs.ShownSeats.{seat_shown}
use Rattle.zy_base.specs.declared.step.Event.TheVariants.{Heard}
use Rattle.zy_world.specs.Answers.{party_answer}
use Rattle.zy_world.proofs.Answering.{nobody_answers, liar_answers}
use Rattle.zy_world.proofs.world.World.bring.Goals as goal

pub returns-in-Nobody-clause-goes : goal.returns-in-Nobody-clause-goes
returns-in-Nobody-clause-goes g c w mail s there =
    let i = subst (λ (v : Shown g.row.M-State.Denot). Shows w v) (sym c.self.view_is) s in
    rw (c.answered.ensures.world, c.answered.ensures.note)
    (subst (λ (h : Happened g.row.M-State.Denot). GoesTo h c.no_subject.result.note c.no_subject.result.world)
    (sym (brought_nobody g.M.Machine.rules w (delivered w c.args.number mail) c.args.to c.args.bytes (sym (seat_shown w _ i.seats c.args.to) ∙ sym c.seat.ensures ∙ c.in-Nobody.is)))
    (c.no_subject.ensures.goes w (λ xs. xs) s))

pub returns-in-Liar-clause-goes : goal.returns-in-Liar-clause-goes
returns-in-Liar-clause-goes g c w mail s there =
    let i = subst (λ (v : Shown g.row.M-State.Denot). Shows w v) (sym c.self.view_is) s in
    rw (c.answered-in-Liar.ensures.world, c.answered-in-Liar.ensures.note, c.noted.ensures.world, c.noted.ensures.note)
    (record {
      world = delivered w c.args.number mail;
      goes = brought_liar g.M.Machine.rules w (delivered w c.args.number mail) c.args.to c.args.bytes (sym (seat_shown w _ i.seats c.args.to) ∙ sym c.seat.ensures ∙ c.in-Liar.is);
      shows = c.delivered.ensures.shows w mail s there;
    })

pub returns-in_ok-hears-in-Correct-clause-goes : goal.returns-in_ok-hears-in-Correct-clause-goes
returns-in_ok-hears-in-Correct-clause-goes g c w mail s there =
    let i = subst (λ (v : Shown g.row.M-State.Denot). Shows w v) (sym c.self.view_is) s in
    let marked : World g.row.M-State.Denot = delivered w c.args.number mail in
    let h = c.in_ok-hears-in-Correct.ensures.heard marked (λ xs. xs) (c.delivered-in-Correct.ensures.shows w mail s there) in
    subst (λ (h : Happened g.row.M-State.Denot). IfOk c.steps.result (λ r. GoesTo h r.note r.world))
    (sym (brought_heard g.M.Machine.rules w c.args.number mail c.args.to c.args.bytes (sym (seat_shown w _ i.seats c.args.to) ∙ sym c.seat.ensures ∙ c.in-Correct.is) _ h))
    (c.steps.ensures.goes (record marked { texts = h.texts }) h.shows)

pub returns-in_ok-hears-in-Correct-clause-broken : goal.returns-in_ok-hears-in-Correct-clause-broken
returns-in_ok-hears-in-Correct-clause-broken g c w mail s there =
    let i = subst (λ (v : Shown g.row.M-State.Denot). Shows w v) (sym c.self.view_is) s in
    let marked : World g.row.M-State.Denot = delivered w c.args.number mail in
    let h = c.in_ok-hears-in-Correct.ensures.heard marked (λ xs. xs) (c.delivered-in-Correct.ensures.shows w mail s there) in
    subst (λ (h : Happened g.row.M-State.Denot). IfErr c.steps.result (IsBrokenBy h))
    (sym (brought_heard g.M.Machine.rules w c.args.number mail c.args.to c.args.bytes (sym (seat_shown w _ i.seats c.args.to) ∙ sym c.seat.ensures ∙ c.in-Correct.is) _ h))
    (c.steps.ensures.broken (record marked { texts = h.texts }) h.shows)

pub returns-in_err-hears-in-Correct-clause-broken : goal.returns-in_err-hears-in-Correct-clause-broken
returns-in_err-hears-in-Correct-clause-broken g c w mail s there =
    let i = subst (λ (v : Shown g.row.M-State.Denot). Shows w v) (sym c.self.view_is) s in
    let p = err_from_is_err_and c.from_residual.result c.from_residual.ensures.1 in
    rw (p.1, p.2) (brought_unheard g.M.Machine.rules w c.args.number mail c.args.to c.args.bytes (sym (seat_shown w _ i.seats c.args.to) ∙ sym c.seat.ensures ∙ c.in-Correct.is) c.in_err-hears-in-Correct.field-0.0
    (c.in_err-hears-in-Correct.ensures.unheard (delivered w c.args.number mail) (λ xs. xs) (c.delivered-in-Correct.ensures.shows w mail s there)))

pub returns-in-Nobody-clause-answer : goal.returns-in-Nobody-clause-answer
returns-in-Nobody-clause-answer g c =
    c.answered.ensures.answer ∙ subst (λ (v : Shown g.row.M-State.Denot). None ≡ party_answer g.M.Machine.rules v.seats c.args.to (Heard c.args.bytes)) c.self.view_is
    (sym (nobody_answers g.M.Machine.rules c.self.inside.seats c.args.to (Heard c.args.bytes) (sym c.seat.ensures ∙ c.in-Nobody.is)))

pub returns-in-Liar-clause-answer : goal.returns-in-Liar-clause-answer
returns-in-Liar-clause-answer g c =
    c.answered-in-Liar.ensures.answer ∙ subst (λ (v : Shown g.row.M-State.Denot). None ≡ party_answer g.M.Machine.rules v.seats c.args.to (Heard c.args.bytes)) c.self.view_is
    (sym (liar_answers g.M.Machine.rules c.self.inside.seats c.args.to (Heard c.args.bytes) (sym c.seat.ensures ∙ c.in-Liar.is)))

pub returns-in_ok-hears-in-Correct-clause-answer : goal.returns-in_ok-hears-in-Correct-clause-answer
returns-in_ok-hears-in-Correct-clause-answer g c =
    subst (λ (seats : Seated g.row.M-State.Denot). IfOk c.steps.result (λ r. r.answer ≡ party_answer g.M.Machine.rules seats c.args.to (Heard c.args.bytes)))
    (c.in_ok-hears-in-Correct.ensures.seats ∙ c.delivered-in-Correct.ensures.seats) c.steps.ensures.answer
