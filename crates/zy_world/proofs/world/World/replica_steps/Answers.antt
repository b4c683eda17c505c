use Rattle.std.proofs.Common.{◌≡◌, sym, subst, Option, Some, None, ap, ◌∙◌}
use Rattle.std.proofs.lemmas.Result.{err_from_is_err_and}
use Rattle.std.specs.Prelude.{IfOk, IfErr, option_map}
use Rattle.zy_table.specs.Whole.{whole_step}
use Rattle.zy_world.specs.Answered.{GoesTo, IsBrokenBy}
use Rattle.zy_world.specs.Shown.{Shown}
use Rattle.zy_world.specs.Shows.{Shows}
use Rattle.zy_world_law.specs.Events.{Happened}
use Rattle.zy_world.proofs.Turns.{nobody_steps, replica_turn}
use Rattle.zy_base.specs.declared.ids.Party.TheVariants as parties
use Rattle.zy_base.specs.declared.step.Answer.{Answer}
use Rattle.zy_world.specs.Answers.{party_answer}
use Rattle.zy_world.specs.declared.step.ReplicaStep.{ReplicaStep}
use Rattle.zy_world.proofs.Answering.{replica_answered}
use Rattle.zy_world.proofs.world.World.replica_steps.Goals as goal

pub returns-in-None-clause-goes : goal.returns-in-None-clause-goes
returns-in-None-clause-goes g c w s =
    let i = subst (λ (v : Shown g.row.M-State.Denot). Shows w v) (sym c.self.view_is) s in
    rw (c.answered.ensures.world, c.answered.ensures.note)
    (nobody_steps g.M.Machine.rules w _ i c.args.id c.args.event _ _ c.in-None.is c.in_ok-step_replica.ensures.missing c.in_ok-step_replica.ensures.stepped _ _ (λ u. c.no_subject.ensures.goes u (λ xs. xs)))

pub returns-in-Some-clause-goes : goal.returns-in-Some-clause-goes
returns-in-Some-clause-goes g c w s =
    let i = subst (λ (v : Shown g.row.M-State.Denot). Shows w v) (sym c.self.view_is) s in
    let t = replica_turn g.M.Machine.rules w _ i c.args.id c.args.event _ _ _ c.in-Some.is c.in_ok-step_replica.ensures.missing c.in_ok-step_replica.ensures.stepped c.in_ok-step_replica.ensures.state in
    subst (λ (h : Happened g.row.M-State.Denot). IfOk c.replica_stepped.result (λ r. GoesTo h r.note r.world)) (sym t.is)
    (c.replica_stepped.ensures.goes w t.who c.args.event (whole_step g.M.Machine.rules t.who.state c.args.event) (λ xs. xs) t.has)

pub returns-in-Some-clause-broken : goal.returns-in-Some-clause-broken
returns-in-Some-clause-broken g c w s =
    let i = subst (λ (v : Shown g.row.M-State.Denot). Shows w v) (sym c.self.view_is) s in
    let t = replica_turn g.M.Machine.rules w _ i c.args.id c.args.event _ _ _ c.in-Some.is c.in_ok-step_replica.ensures.missing c.in_ok-step_replica.ensures.stepped c.in_ok-step_replica.ensures.state in
    subst (λ (h : Happened g.row.M-State.Denot). IfErr c.replica_stepped.result (IsBrokenBy h)) (sym t.is)
    (c.replica_stepped.ensures.broken w t.who c.args.event (whole_step g.M.Machine.rules t.who.state c.args.event) (λ xs. xs) t.has)

pub returns-in_err-step_replica-clause-broken : goal.returns-in_err-step_replica-clause-broken
returns-in_err-step_replica-clause-broken g c w s =
    let p = err_from_is_err_and c.from_residual.result c.from_residual.ensures.1 in
    rw (p.1, p.2) tt

pub returns-in-None-clause-answer : goal.returns-in-None-clause-answer
returns-in-None-clause-answer g c =
    c.answered.ensures.answer ∙ subst (λ (v : Shown g.row.M-State.Denot). None ≡ party_answer g.M.Machine.rules v.seats (parties.Replica c.args.id) c.args.event) c.self.view_is
    (ap (option_map (λ (r : ReplicaStep). r.answer)) (sym c.in-None.is)
    ∙ replica_answered g.M.Machine.rules c.self.inside.seats _ c.args.id c.args.event _ c.in_ok-step_replica.ensures.missing c.in_ok-step_replica.ensures.stepped)

pub returns-in-Some-clause-answer : goal.returns-in-Some-clause-answer
returns-in-Some-clause-answer g c =
    subst (λ (a : Option Answer). IfOk c.replica_stepped.result (λ r. r.answer ≡ a))
    (subst (λ (v : Shown g.row.M-State.Denot). Some c.in-Some.step.answer ≡ party_answer g.M.Machine.rules v.seats (parties.Replica c.args.id) c.args.event) c.self.view_is
    (ap (option_map (λ (r : ReplicaStep). r.answer)) (sym c.in-Some.is)
    ∙ replica_answered g.M.Machine.rules c.self.inside.seats _ c.args.id c.args.event _ c.in_ok-step_replica.ensures.missing c.in_ok-step_replica.ensures.stepped))
    c.replica_stepped.ensures.answer
