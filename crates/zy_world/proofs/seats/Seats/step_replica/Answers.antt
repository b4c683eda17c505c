use Rattle.std.proofs.Common.{◌≡◌, List, Option, Some, None, refl, sym, ap, ap₂, ◌∙◌, subst}
use Rattle.std.specs.Prelude.{slice_get}
use Rattle.std.proofs.lemmas.Option.{same_Some}
use Rattle.zy_table.specs.State.{State}
use Rattle.zy_table.specs.Whole.{whole_step}
use Rattle.zy_world.specs.Shown.{Seated, with_replica}
use Rattle.zy_world.specs.Stepping.{IsReplicaStep}
use Rattle.zy_world_law.specs.World.{correct_in}
use Rattle.zy_world.proofs.Returning.{no_replica, replica_again}
use Rattle.zy_world.proofs.seats.Seats.step_replica.Goals.{in-Heard-1, in-Timer-1}
use Rattle.zy_world.proofs.seats.Seats.step_replica.Goals as goal

pub returns-in-None-clause-missing : goal.returns-in-None-clause-missing
returns-in-None-clause-missing g c is =
    let seats : Seated g.row.M-State.Denot = record { replicas = c.self.inside.replicas.items; clients = c.self.inside.clients.items } in
    let put : List (Option (State g.row.M-State.Denot)) → Seated g.row.M-State.Denot = λ xs. record seats { replicas = xs } in
    let none : correct_in (slice_get seats.replicas c.args.id.0) ≡ None = ap (λ (v : Seated g.row.M-State.Denot). correct_in (slice_get v.replicas c.args.id.0)) c.self.view_is ∙ is in
    let same : put c.take_from.new.seats.items ≡ c.args.self.now = ap put c.take_from.ensures.left ∙ no_replica seats c.args.id.0 none ∙ c.self.view_is in
    (refl, elim c.match-event.branch [ in-Heard-1 w ↦ w.self-is ∙ same | in-Timer-1 w ↦ w.self-is ∙ same ])

pub returns-in_ok-replica_steps-in-Some-clause-stepped : goal.returns-in_ok-replica_steps-in-Some-clause-stepped
returns-in_ok-replica_steps-in-Some-clause-stepped g c s is =
    let found : c.in-Some.replica ≡ s =
    same_Some c.in-Some.replica s (sym c.in-Some.is ∙ c.take_from.ensures.taken ∙ ap (λ (v : Seated g.row.M-State.Denot). correct_in (slice_get v.replicas c.args.id.0)) c.self.view_is ∙ is) in
    subst (λ (x : State g.row.M-State.Denot). IsReplicaStep (whole_step g.M.Machine.rules x c.args.event) c.in_ok-replica_steps-in-Some.field-0) found c.in_ok-replica_steps-in-Some.ensures.stepped

pub returns-in_ok-replica_steps-in-Some-clause-state : goal.returns-in_ok-replica_steps-in-Some-clause-state
returns-in_ok-replica_steps-in-Some-clause-state g c s is =
    let seats : Seated g.row.M-State.Denot = record { replicas = c.self.inside.replicas.items; clients = c.self.inside.clients.items } in
    let after : State g.row.M-State.Denot → Option (State g.row.M-State.Denot) = λ x. Some (whole_step g.M.Machine.rules x c.args.event).state in
    let found : c.in-Some.replica ≡ s =
    same_Some c.in-Some.replica s (sym c.in-Some.is ∙ c.take_from.ensures.taken ∙ ap (λ (v : Seated g.row.M-State.Denot). correct_in (slice_get v.replicas c.args.id.0)) c.self.view_is ∙ is) in
    c.in_ok-replica_steps-in-Some.ensures.state
    ∙ ap (λ (xs : List (Option (State g.row.M-State.Denot))). with_replica (record seats { replicas = xs }) c.args.id.0 (after c.in-Some.replica)) c.take_from.ensures.left
    ∙ replica_again seats c.args.id.0 None (after c.in-Some.replica)
    ∙ ap₂ (λ (v : Seated g.row.M-State.Denot) (x : State g.row.M-State.Denot). with_replica v c.args.id.0 (after x)) c.self.view_is found
