use Rattle.std.proofs.Common.{◌≡◌, sym, ◌∙◌, subst, Some, None, ap}
use Rattle.std.proofs.lemmas.Result.{err_from_is_err_and}
use Rattle.std.specs.Prelude.{slice_get, option_map}
use Rattle.zy_table.specs.ClientRows.{ask}
use Rattle.zy_table.specs.ClientState.{ClientState, ClientOutcome}
use Rattle.zy_world.specs.Answered.{GoesTo}
use Rattle.zy_world.specs.Shown.{Shown}
use Rattle.zy_world.specs.Shows.{Shows}
use Rattle.zy_world_law.specs.Events.{Happened}
use Rattle.zy_world.proofs.Turns.{asks_is, no_client_turns, client_turn}
use Rattle.zy_world.specs.Answers.{ask_answer}
use Rattle.zy_world.specs.declared.step.ClientStep.{ClientStep}
use Rattle.zy_world.proofs.Answering.{ask_answered}
use Rattle.zy_world.proofs.world.World.client_asks.Goals as goal

pub returns-in-None-clause-goes : goal.returns-in-None-clause-goes
returns-in-None-clause-goes g c w s =
    let i = subst (λ (v : Shown g.row.M-State.Denot). Shows w v) (sym c.self.view_is) s in
    rw (c.answered.ensures.world, c.answered.ensures.note)
    (subst (λ (h : Happened g.row.M-State.Denot). GoesTo h c.no_subject.result.note c.no_subject.result.world) (sym (asks_is w c.args.id c.args.op (slice_get w.clients c.args.id.0)))
    (no_client_turns w _ i c.args.id (λ x. ask x c.args.op) _ _ c.in-None.is c.in_ok-ask_client.ensures.missing c.in_ok-ask_client.ensures.stepped _ _ (λ u. c.no_subject.ensures.goes u (λ xs. xs))))

pub returns-in_ok-client_stepped-in-Some-clause-goes : goal.returns-in_ok-client_stepped-in-Some-clause-goes
returns-in_ok-client_stepped-in-Some-clause-goes g c w s =
    let i = subst (λ (v : Shown g.row.M-State.Denot). Shows w v) (sym c.self.view_is) s in
    let row : ClientState → ClientOutcome = λ x. ask x c.args.op in
    let t = client_turn w _ i c.args.id row _ _ _ c.in-Some.is c.in_ok-ask_client.ensures.missing c.in_ok-ask_client.ensures.stepped c.in_ok-ask_client.ensures.state in
    subst (λ (h : Happened g.row.M-State.Denot). GoesTo h c.in_ok-client_stepped-in-Some.field-0.note c.in_ok-client_stepped-in-Some.field-0.world)
    (sym (asks_is w c.args.id c.args.op (slice_get w.clients c.args.id.0) ∙ t.is))
    (c.in_ok-client_stepped-in-Some.ensures.goes w t.who (row t.who.state) (λ xs. xs) t.has)

pub returns-in_err-ask_client-clause-broken : goal.returns-in_err-ask_client-clause-broken
returns-in_err-ask_client-clause-broken g c w s =
    let p = err_from_is_err_and c.from_residual.result c.from_residual.ensures.1 in
    rw (p.1, p.2) tt

pub returns-in_err-client_stepped-in-Some-clause-broken : goal.returns-in_err-client_stepped-in-Some-clause-broken
returns-in_err-client_stepped-in-Some-clause-broken g c w s =
    let p = err_from_is_err_and c.from_residual-in_err-client_stepped-in-Some.result c.from_residual-in_err-client_stepped-in-Some.ensures.1 in
    rw (p.1, p.2) tt

pub returns-in-None-clause-answer : goal.returns-in-None-clause-answer
returns-in-None-clause-answer g c =
    c.answered.ensures.answer ∙ subst (λ (v : Shown g.row.M-State.Denot). None ≡ ask_answer v.seats c.args.id c.args.op) c.self.view_is
    (ap (option_map (λ (r : ClientStep). r.answer)) (sym c.in-None.is)
    ∙ ask_answered c.self.inside.seats _ c.args.id c.args.op _ c.in_ok-ask_client.ensures.missing c.in_ok-ask_client.ensures.stepped)

pub returns-in_ok-client_stepped-in-Some-clause-answer : goal.returns-in_ok-client_stepped-in-Some-clause-answer
returns-in_ok-client_stepped-in-Some-clause-answer g c =
    c.in_ok-client_stepped-in-Some.ensures.answer ∙ subst (λ (v : Shown g.row.M-State.Denot). Some c.in-Some.step.answer ≡ ask_answer v.seats c.args.id c.args.op) c.self.view_is
    (ap (option_map (λ (r : ClientStep). r.answer)) (sym c.in-Some.is)
    ∙ ask_answered c.self.inside.seats _ c.args.id c.args.op _ c.in_ok-ask_client.ensures.missing c.in_ok-ask_client.ensures.stepped)
