use Rattle.std.proofs.Common.{◌≡◌, List, Option, Some, None, refl, sym, ap, ap₂, ◌∙◌, subst}
use Rattle.std.specs.Prelude.{slice_get}
use Rattle.std.proofs.lemmas.Option.{same_Some}
use Rattle.zy_table.specs.ClientRows.{client_step}
use Rattle.zy_table.specs.ClientState.{ClientState}
use Rattle.zy_world.specs.Shown.{Seated, with_client}
use Rattle.zy_world.specs.Stepping.{IsClientStep}
use Rattle.zy_world_law.specs.World.{correct_in}
use Rattle.zy_world.proofs.Returning.{no_client, client_again}
use Rattle.zy_world.proofs.seats.Seats.step_client.Goals.{in-Heard-1, in-Timer-1}
use Rattle.zy_world.proofs.seats.Seats.step_client.Goals as goal

pub returns-in-None-clause-missing : goal.returns-in-None-clause-missing
returns-in-None-clause-missing g c is =
    let seats : Seated g.row.M-State.Denot = record { replicas = c.self.inside.replicas.items; clients = c.self.inside.clients.items } in
    let put : List (Option ClientState) → Seated g.row.M-State.Denot = λ xs. record seats { clients = xs } in
    let none : correct_in (slice_get seats.clients c.args.id.0) ≡ None = ap (λ (v : Seated g.row.M-State.Denot). correct_in (slice_get v.clients c.args.id.0)) c.self.view_is ∙ is in
    let same : put c.take_from.new.seats.items ≡ c.args.self.now = ap put c.take_from.ensures.left ∙ no_client seats c.args.id.0 none ∙ c.self.view_is in
    (refl, elim c.match-event.branch [ in-Heard-1 w ↦ w.self-is ∙ same | in-Timer-1 w ↦ w.self-is ∙ same ])

pub returns-in_ok-client_made-in-Some-clause-stepped : goal.returns-in_ok-client_made-in-Some-clause-stepped
returns-in_ok-client_made-in-Some-clause-stepped g c s is =
    let found : c.in-Some.client ≡ s =
    same_Some c.in-Some.client s (sym c.in-Some.is ∙ c.take_from.ensures.taken ∙ ap (λ (v : Seated g.row.M-State.Denot). correct_in (slice_get v.clients c.args.id.0)) c.self.view_is ∙ is) in
    subst (λ (x : ClientState). IsClientStep x (client_step x c.args.event) c.in_ok-client_made-in-Some.field-0) found
    (c.in_ok-client_made-in-Some.ensures.stepped c.in-Some.client (client_step c.in-Some.client c.args.event) (sym c.waits-waited.ensures) c.in_ok-stepped-in-Some.ensures.stepped)

pub returns-in_ok-client_made-in-Some-clause-state : goal.returns-in_ok-client_made-in-Some-clause-state
returns-in_ok-client_made-in-Some-clause-state g c s is =
    let seats : Seated g.row.M-State.Denot = record { replicas = c.self.inside.replicas.items; clients = c.self.inside.clients.items } in
    let after = c.in_ok-stepped-in-Some.stepped.client in
    let found : c.in-Some.client ≡ s =
    same_Some c.in-Some.client s (sym c.in-Some.is ∙ c.take_from.ensures.taken ∙ ap (λ (v : Seated g.row.M-State.Denot). correct_in (slice_get v.clients c.args.id.0)) c.self.view_is ∙ is) in
    c.in_ok-client_made-in-Some.ensures.state
    ∙ ap (λ (xs : List (Option ClientState)). with_client (record seats { clients = xs }) c.args.id.0 (Some after)) c.take_from.ensures.left
    ∙ client_again seats c.args.id.0 None (Some after)
    ∙ ap₂ (λ (v : Seated g.row.M-State.Denot) (x : ClientState). with_client v c.args.id.0 (Some x)) c.self.view_is (c.in_ok-stepped-in-Some.ensures.stepped.client ∙ ap (λ (x : ClientState). (client_step x c.args.event).state) found)
