-- A party's step, and what it did beside changing the party.
use Rattle.std.specs.Prelude.{◌≡◌, Bool, if◌then◌else◌, map, slice_get, Option, Some, None}
use Rattle.zy_base.specs.declared.ids.ClientId.{ClientId}
use Rattle.zy_base.specs.declared.ids.Party.TheVariants as parties
use Rattle.zy_base.specs.declared.ids.ReplicaId.{ReplicaId}
use Rattle.zy_table.specs.ClientState.{ClientState, ClientOutcome, client_outgoing, spoken_of, is_waiting}
use Rattle.zy_table.specs.Deeds.{Outcome, outgoing_of, said_from, gains_in}
use Rattle.zy_table.specs.declared.client.Done.{Done}
use Rattle.zy_world.specs.Shown.{Shown, Seated, with_replica, with_client}
use Rattle.zy_world.specs.Shows.{Shows}
use Rattle.zy_world.specs.declared.step.ClientStep.{ClientStep}
use Rattle.zy_world.specs.declared.step.ReplicaStep.{ReplicaStep}
use Rattle.zy_world_law.specs.Events.{completed_by}
use Rattle.zy_world_law.specs.World.{World, Replica, Client}

pub record IsReplicaStep {S : Type 0} (o : Outcome S) (r : ReplicaStep) : Type 0 where
  pub answer : r.answer ≡ o.answer
  pub out : r.out ≡ outgoing_of o.state.me.0 o.state.counts.n o.deeds.sent
  pub said : r.said ≡ said_from (parties.Replica o.state.me) 0 o.deeds.acts
  pub got : r.got ≡ gains_in o.deeds.acts

-- the completion that a client has where no request waits any more
abbrev pub done_if : Bool → ClientState → Option Done
done_if waited after = if waited then (if is_waiting after.waiting then None else after.done) else None

pub record IsClientStep (before : ClientState) (o : ClientOutcome) (r : ClientStep) : Type 0 where
  pub answer : r.answer ≡ o.answer
  pub out : r.out ≡ client_outgoing o.state.counts.n o.sent
  pub said : r.said ≡ map (spoken_of o.state.me) o.said
  pub done : r.done ≡ completed_by before o.state

-- the replica of this number made a step with this outcome, and nothing else was done yet
pub record HasReplicaStepped {S : Type 0} (w : World S) (id : ReplicaId) (x : Replica S) (o : Outcome S) (r : ReplicaStep) (v : Shown S) : Type 0 where
  pub before : Seated S
  pub shows : Shows w (record v { seats = before })
  pub there : slice_get w.replicas id.0 ≡ Some (Some x)
  pub after : v.seats ≡ with_replica before id.0 (Some o.state)
  pub step : IsReplicaStep o r

-- likewise a client
pub record HasClientStepped {S : Type 0} (w : World S) (id : ClientId) (x : Client) (o : ClientOutcome) (r : ClientStep) (v : Shown S) : Type 0 where
  pub before : Seated S
  pub shows : Shows w (record v { seats = before })
  pub there : slice_get w.clients id.0 ≡ Some (Some x)
  pub after : v.seats ≡ with_client before id.0 (Some o.state)
  pub step : IsClientStep x.state o r
