use Rattle.std.proofs.Common.{◌≡◌, sym, ap, ◌∙◌, subst, Some, None}
use Rattle.std.proofs.lemmas.Result.{err_from_is_err_and}
use Rattle.std.specs.Prelude.{slice_get, option_map}
use Rattle.zy_table.specs.ClientRows.{client_step}
use Rattle.zy_table.specs.ClientState.{ClientState, ClientOutcome}
use Rattle.zy_world.specs.Answered.{GoesTo}
use Rattle.zy_world.specs.Shown.{Seated, Shown, with_replicas}
use Rattle.zy_world.specs.Shows.{Shows}
use Rattle.zy_world_law.specs.Events.{Happened}
use Rattle.zy_base.specs.declared.ids.Party.TheVariants as parties
use Rattle.zy_world.specs.Answers.{party_answer}
use Rattle.zy_world.specs.declared.step.ClientStep.{ClientStep}
use Rattle.zy_world.proofs.Answering.{client_answered}
use Rattle.zy_world.proofs.Turns.{steps_is, no_client_turns, client_turn, seats_with, missing_ahead, replicas_stay}
use Rattle.zy_world.proofs.world.World.client_steps.Goals as goal

pub returns-in-None-clause-goes : goal.returns-in-None-clause-goes
returns-in-None-clause-goes g c w others s =
    let i = subst (λ (v : Shown g.row.M-State.Denot). Shows w (with_replicas others v)) (sym c.self.view_is) s in
    rw (c.answered.ensures.world, c.answered.ensures.note)
    (subst (λ (h : Happened g.row.M-State.Denot). GoesTo h c.no_subject.result.note (with_replicas others c.no_subject.result.world)) (sym (steps_is w c.args.id c.args.event (slice_get w.clients c.args.id.0)))
    (no_client_turns w _ i c.args.id (λ x. client_step x c.args.event) _ _ c.in-None.is (missing_ahead others c.in_ok-step_client.ensures.missing) c.in_ok-step_client.ensures.stepped _ _ (λ u. c.no_subject.ensures.goes u others)))

pub returns-in_ok-client_stepped-in-Some-clause-goes : goal.returns-in_ok-client_stepped-in-Some-clause-goes
returns-in_ok-client_stepped-in-Some-clause-goes g c w others s =
    let i = subst (λ (v : Shown g.row.M-State.Denot). Shows w (with_replicas others v)) (sym c.self.view_is) s in
    let row : ClientState → ClientOutcome = λ x. client_step x c.args.event in
    let t = client_turn w _ i c.args.id row _ _ _ c.in-Some.is (missing_ahead others c.in_ok-step_client.ensures.missing) c.in_ok-step_client.ensures.stepped (λ x is. ap (seats_with others) (c.in_ok-step_client.ensures.state x is)) in
    subst (λ (h : Happened g.row.M-State.Denot). GoesTo h c.in_ok-client_stepped-in-Some.field-0.note (with_replicas others c.in_ok-client_stepped-in-Some.field-0.world))
    (sym (steps_is w c.args.id c.args.event (slice_get w.clients c.args.id.0) ∙ t.is))
    (c.in_ok-client_stepped-in-Some.ensures.goes w t.who (row t.who.state) others t.has)

pub returns-in_err-step_client-clause-broken : goal.returns-in_err-step_client-clause-broken
returns-in_err-step_client-clause-broken g c w others s =
    let p = err_from_is_err_and c.from_residual.result c.from_residual.ensures.1 in
    rw (p.1, p.2) tt

pub returns-in_err-client_stepped-in-Some-clause-broken : goal.returns-in_err-client_stepped-in-Some-clause-broken
returns-in_err-client_stepped-in-Some-clause-broken g c w others s =
    let p = err_from_is_err_and c.from_residual-in_err-client_stepped-in-Some.result c.from_residual-in_err-client_stepped-in-Some.ensures.1 in
    rw (p.1, p.2) tt

pub returns-in-None-clause-answer : goal.returns-in-None-clause-answer
returns-in-None-clause-answer g c =
    c.answered.ensures.answer ∙ subst (λ (v : Shown g.row.M-State.Denot). None ≡ party_answer g.M.Machine.rules v.seats (parties.Client c.args.id) c.args.event) c.self.view_is
    (ap (option_map (λ (r : ClientStep). r.answer)) (sym c.in-None.is)
    ∙ client_answered g.M.Machine.rules c.self.inside.seats _ c.args.id c.args.event _ c.in_ok-step_client.ensures.missing c.in_ok-step_client.ensures.stepped)

pub returns-in_ok-client_stepped-in-Some-clause-answer : goal.returns-in_ok-client_stepped-in-Some-clause-answer
returns-in_ok-client_stepped-in-Some-clause-answer g c =
    c.in_ok-client_stepped-in-Some.ensures.answer ∙ subst (λ (v : Shown g.row.M-State.Denot). Some c.in-Some.step.answer ≡ party_answer g.M.Machine.rules v.seats (parties.Client c.args.id) c.args.event) c.self.view_is
    (ap (option_map (λ (r : ClientStep). r.answer)) (sym c.in-Some.is)
    ∙ client_answered g.M.Machine.rules c.self.inside.seats _ c.args.id c.args.event _ c.in_ok-step_client.ensures.missing c.in_ok-step_client.ensures.stepped)

pub returns-in-None-clause-replicas : goal.returns-in-None-clause-replicas
returns-in-None-clause-replicas g c =
    ap (λ (v : Shown g.row.M-State.Denot). v.seats.replicas) c.answered.ensures.world
    ∙ ap (λ (s : Seated g.row.M-State.Denot). s.replicas) c.no_subject.ensures.seats
    ∙ replicas_stay _ _ c.step_client.new.self c.self.inside.seats c.args.id.0 (λ x. client_step x c.args.event) c.in_ok-step_client.ensures.missing c.in_ok-step_client.ensures.state
    ∙ ap (λ (v : Shown g.row.M-State.Denot). v.seats.replicas) c.self.view_is

pub returns-in_ok-client_stepped-in-Some-clause-replicas : goal.returns-in_ok-client_stepped-in-Some-clause-replicas
returns-in_ok-client_stepped-in-Some-clause-replicas g c =
    ap (λ (s : Seated g.row.M-State.Denot). s.replicas) c.in_ok-client_stepped-in-Some.ensures.seats
    ∙ replicas_stay _ _ c.step_client.new.self c.self.inside.seats c.args.id.0 (λ x. client_step x c.args.event) c.in_ok-step_client.ensures.missing c.in_ok-step_client.ensures.state
    ∙ ap (λ (v : Shown g.row.M-State.Denot). v.seats.replicas) c.self.view_is
