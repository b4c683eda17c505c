-- What is answered is the answer of the step that the party in its seat makes.
use Rattle.std.proofs.Common.{◌≡◌, ℕ, List, Option, Some, None, refl, ap}
use Rattle.std.specs.Prelude.{slice_get, option_map, IsSomeAnd}
use Rattle.zy_base.specs.Machine.{Rules}
use Rattle.zy_base.specs.declared.ids.ClientId.{ClientId}
use Rattle.zy_base.specs.declared.ids.Party.{Party}
use Rattle.zy_base.specs.declared.ids.Party.TheVariants as parties
use Rattle.zy_base.specs.declared.ids.ReplicaId.{ReplicaId}
use Rattle.zy_base.specs.declared.step.Answer.{Answer}
use Rattle.zy_base.specs.declared.step.Event.{Event}
use Rattle.zy_table.specs.ClientRows.{ask, client_step}
use Rattle.zy_table.specs.ClientState.{ClientState, ClientOutcome}
use Rattle.zy_table.specs.State.{State}
use Rattle.zy_table.specs.Whole.{whole_step}
use Rattle.zy_world.specs.Answers.{party_answer, ask_answer}
use Rattle.zy_world.specs.Shown.{Seated, seat_in, seat_of}
use Rattle.zy_world.specs.Stepping.{IsReplicaStep, IsClientStep}
use Rattle.zy_world.specs.declared.seat.Seat.TheVariants as sat
use Rattle.zy_world.specs.declared.step.ClientStep.{ClientStep}
use Rattle.zy_world.specs.declared.step.ReplicaStep.{ReplicaStep}
use Rattle.zy_world_law.specs.World.{correct_in}

answered_by : {A B : Type 0} (answer : B → Answer) (row : A → Answer) (made : A → B → Type 0) → ((x : A) (r : B) → made x r → answer r ≡ row x)
    → (seat : Option A) (step : Option B) → (seat ≡ None → step ≡ None) → ((x : A) → seat ≡ Some x → IsSomeAnd step (made x)) → option_map answer step ≡ option_map row seat
answered_by answer row made same None step missing stepped = ap (option_map answer) (missing refl)
answered_by answer row made same (Some x) (Some r) missing stepped = ap Some (same x r (stepped x refl))
answered_by answer row made same (Some x) None missing stepped = absurd (stepped x refl)

pub replica_answered : {S : Type 0} (R : Rules S) (seats new : Seated S) (id : ReplicaId) (event : Event) (step : Option ReplicaStep)
    → (correct_in (slice_get seats.replicas id.0) ≡ None → (step ≡ None) × (new ≡ seats))
    → ((s : State S) → correct_in (slice_get seats.replicas id.0) ≡ Some s → IsSomeAnd step (IsReplicaStep (whole_step R s event)))
    → option_map (λ r. r.answer) step ≡ party_answer R seats (parties.Replica id) event
replica_answered {S} R seats new id event step missing stepped =
    answered_by (λ (r : ReplicaStep). r.answer) (λ (s : State S). (whole_step R s event).answer) (λ (s : State S). IsReplicaStep (whole_step R s event)) (λ s r made. made.answer)
    (correct_in (slice_get seats.replicas id.0)) step (λ none. (missing none).0) stepped

client_made : {S : Type 0} (seats new : Seated S) (id : ClientId) (row : ClientState → ClientOutcome) (step : Option ClientStep)
    → (correct_in (slice_get seats.clients id.0) ≡ None → (step ≡ None) × (new ≡ seats))
    → ((s : ClientState) → correct_in (slice_get seats.clients id.0) ≡ Some s → IsSomeAnd step (IsClientStep s (row s)))
    → option_map (λ r. r.answer) step ≡ option_map (λ s. (row s).answer) (correct_in (slice_get seats.clients id.0))
client_made seats new id row step missing stepped =
    answered_by (λ (r : ClientStep). r.answer) (λ (s : ClientState). (row s).answer) (λ (s : ClientState). IsClientStep s (row s)) (λ s r made. made.answer)
    (correct_in (slice_get seats.clients id.0)) step (λ none. (missing none).0) stepped

pub client_answered : {S : Type 0} (R : Rules S) (seats new : Seated S) (id : ClientId) (event : Event) (step : Option ClientStep)
    → (correct_in (slice_get seats.clients id.0) ≡ None → (step ≡ None) × (new ≡ seats))
    → ((s : ClientState) → correct_in (slice_get seats.clients id.0) ≡ Some s → IsSomeAnd step (IsClientStep s (client_step s event)))
    → option_map (λ r. r.answer) step ≡ party_answer R seats (parties.Client id) event
client_answered R seats new id event step missing stepped = client_made seats new id (λ s. client_step s event) step missing stepped

pub ask_answered : {S : Type 0} (seats new : Seated S) (id : ClientId) (op : List ℕ) (step : Option ClientStep)
    → (correct_in (slice_get seats.clients id.0) ≡ None → (step ≡ None) × (new ≡ seats))
    → ((s : ClientState) → correct_in (slice_get seats.clients id.0) ≡ Some s → IsSomeAnd step (IsClientStep s (ask s op)))
    → option_map (λ r. r.answer) step ≡ ask_answer seats id op
ask_answered seats new id op step missing stepped = client_made seats new id (λ s. ask s op) step missing stepped

-- ---- where no correct party sits nobody answers

nobody_in : {A : Type 0} (o : Option (Option A)) → seat_in o ≡ sat.Nobody → correct_in o ≡ None
nobody_in None is = refl
nobody_in (Some None) is = refl
nobody_in (Some (Some x)) is = absurd cc

liar_in : {A : Type 0} (o : Option (Option A)) → seat_in o ≡ sat.Liar → correct_in o ≡ None
liar_in None is = refl
liar_in (Some None) is = refl
liar_in (Some (Some x)) is = absurd cc

pub nobody_answers : {S : Type 0} (R : Rules S) (seats : Seated S) (to : Party) (event : Event) → seat_of seats to ≡ sat.Nobody → party_answer R seats to event ≡ None
nobody_answers {S} R seats (parties.Replica id) event is = ap (option_map (λ (s : State S). (whole_step R s event).answer)) (nobody_in (slice_get seats.replicas id.0) is)
nobody_answers R seats (parties.Client id) event is = ap (option_map (λ (s : ClientState). (client_step s event).answer)) (nobody_in (slice_get seats.clients id.0) is)

pub liar_answers : {S : Type 0} (R : Rules S) (seats : Seated S) (to : Party) (event : Event) → seat_of seats to ≡ sat.Liar → party_answer R seats to event ≡ None
liar_answers {S} R seats (parties.Replica id) event is = ap (option_map (λ (s : State S). (whole_step R s event).answer)) (liar_in (slice_get seats.replicas id.0) is)
liar_answers R seats (parties.Client id) event is = ap (option_map (λ (s : ClientState). (client_step s event).answer)) (liar_in (slice_get seats.clients id.0) is)
