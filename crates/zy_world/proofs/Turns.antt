-- A party in its seat makes a step.
use Rattle.std.proofs.Common.{◌≡◌, ℕ, List, [], Option, Some, None, refl, sym, ap, ◌∙◌, subst}
use Rattle.std.specs.Prelude.{slice_get, option_map, IsSomeAnd}
use Rattle.zy_base.specs.Machine.{Rules}
use Rattle.zy_base.specs.declared.ids.ClientId.{ClientId}
use Rattle.zy_base.specs.declared.ids.ReplicaId.{ReplicaId}
use Rattle.zy_base.specs.declared.step.Event.{Event}
use Rattle.zy_table.specs.ClientRows.{ask, client_step}
use Rattle.zy_table.specs.ClientState.{ClientState, ClientOutcome}
use Rattle.zy_table.specs.State.{State}
use Rattle.zy_table.specs.Whole as table
use Rattle.zy_world.specs.Answered.{GoesTo, replica_steps, client_steps}
use Rattle.zy_world.specs.Shown.{Shown, Seated, with_replica, with_client}
use Rattle.zy_world.specs.Shows.{Shows}
use Rattle.zy_world.specs.Stepping.{IsReplicaStep, IsClientStep, HasReplicaStepped, HasClientStepped}
use Rattle.zy_world.specs.declared.step.ClientStep.{ClientStep}
use Rattle.zy_world.specs.declared.step.ReplicaStep.{ReplicaStep}
use Rattle.zy_world_law.specs.Events.{Happened, no_subject, replica_goes, client_goes, ask_in}
use Rattle.zy_world_law.specs.World.{World, Replica, Client, correct_in}
use Rattle.zy_world_law.specs.declared.note.Note.{Note}
use Rattle.zy_world.proofs.ShownSeats.{replica_shown, client_shown}

not_there : {A : Type 0} (o : Option A) → ((x : A) → o ≡ Some x → ⊥) → o ≡ None
not_there None never = refl
not_there (Some x) never = absurd (never x refl)

-- where no step was made there is nobody
none_made : {A B : Type 0} (made : A → B → Type 0) (seat : Option A) (step : Option B) → step ≡ None → ((x : A) → seat ≡ Some x → IsSomeAnd step (made x)) → seat ≡ None
none_made made seat None is stepped = not_there seat stepped
none_made made seat (Some r) is stepped = absurd cc

-- ---- a replica

module _ {S : Type 0} (R : Rules S) (w : World S) (v : Shown S) (s : Shows w v) (id : ReplicaId) (event : Event) where
  abbrev seat : Option (State S)
  seat = correct_in (slice_get v.seats.replicas id.0)

  sits : seat ≡ option_map (λ x. x.state) (correct_in (slice_get w.replicas id.0))
  sits = replica_shown w v.seats s.seats id.0

  no_replica : (o : Option (Option (Replica S))) → option_map (λ x. x.state) (correct_in o) ≡ None → replica_steps R w id event o ≡ no_subject w
  unfolding replica_steps
  no_replica (Some (Some x)) is = absurd cc
  no_replica (Some None) is = refl
  no_replica None is = refl

  pub nobody_steps : (step : Option ReplicaStep) (seats : Seated S) → step ≡ None → (seat ≡ None → (step ≡ None) × (seats ≡ v.seats))
      → ((x : State S) → seat ≡ Some x → IsSomeAnd step (IsReplicaStep (table.whole_step R x event)))
      → (note : Note) (u : Shown S) → ((g : World S) → Shows g (record v { seats = seats }) → GoesTo (no_subject g) note u)
      → GoesTo (replica_steps R w id event (slice_get w.replicas id.0)) note u
  nobody_steps step seats is missing stepped note u goes =
      let none = none_made (λ (x : State S). IsReplicaStep (table.whole_step R x event)) seat step is stepped in
      subst (λ (h : Happened S). GoesTo h note u) (sym (no_replica (slice_get w.replicas id.0) (sym sits ∙ none)))
      (goes w (subst (λ (t : Seated S). Shows w (record v { seats = t })) (sym (missing none).1) s))

  -- it is what the replica in its seat makes
  pub record IsTurn (r : ReplicaStep) (u : Shown S) : Type 0 where
    pub who : Replica S
    pub is : replica_steps R w id event (slice_get w.replicas id.0) ≡ replica_goes w id who [] event (table.whole_step R who.state event)
    pub has : HasReplicaStepped w id who (table.whole_step R who.state event) r u

  module _ (step : Option ReplicaStep) (r : ReplicaStep) (seats : Seated S) (made : step ≡ Some r) (missing : seat ≡ None → (step ≡ None) × (seats ≡ v.seats))
      (stepped : (x : State S) → seat ≡ Some x → IsSomeAnd step (IsReplicaStep (table.whole_step R x event)))
      (state : (x : State S) → seat ≡ Some x → seats ≡ with_replica v.seats id.0 (Some (table.whole_step R x event).state)) where
    turn : (o : Option (Option (Replica S))) → slice_get w.replicas id.0 ≡ o → IsTurn r (record v { seats = seats })
    unfolding replica_steps
    turn (Some (Some x)) there =
        let here : seat ≡ Some x.state = sits ∙ ap (λ (o : Option (Option (Replica S))). option_map (λ r. r.state) (correct_in o)) there in
        record {
          who = x;
          is = ap (replica_steps R w id event) there;
          has = record {
            before = v.seats;
            shows = s;
            there = there;
            after = state x.state here;
            step = subst (λ (o : Option ReplicaStep). IsSomeAnd o (IsReplicaStep (table.whole_step R x.state event))) made (stepped x.state here);
          };
        }
    turn (Some None) there =
        let none = (missing (sits ∙ ap (λ (o : Option (Option (Replica S))). option_map (λ r. r.state) (correct_in o)) there)).0 in
        absurd (let both : Some r ≡ None = sym made ∙ none in cc)
    turn None there =
        let none = (missing (sits ∙ ap (λ (o : Option (Option (Replica S))). option_map (λ r. r.state) (correct_in o)) there)).0 in
        absurd (let both : Some r ≡ None = sym made ∙ none in cc)

    pub replica_turn : IsTurn r (record v { seats = seats })
    replica_turn = turn (slice_get w.replicas id.0) refl

-- ---- a client

-- seats in which other replicas sit
abbrev pub seats_with : {S : Type 0} → (List (Option (State S)) → List (Option (State S))) → Seated S → Seated S
seats_with others s = record s { replicas = others s.replicas }

pub missing_ahead : {S : Type 0} (others : List (Option (State S)) → List (Option (State S))) {seat : Option ClientState} {step : Option ClientStep} {new old : Seated S}
    → (seat ≡ None → (step ≡ None) × (new ≡ old)) → seat ≡ None → (step ≡ None) × (seats_with others new ≡ seats_with others old)
missing_ahead others missing none = ((missing none).0, ap (seats_with others) (missing none).1)

-- the replicas stay in their seats, whoever made a step
pub replicas_stay : {S : Type 0} (seat : Option ClientState) (step : Option ClientStep) (new old : Seated S) (id : ℕ) (row : ClientState → ClientOutcome) → (seat ≡ None → (step ≡ None) × (new ≡ old))
    → ((x : ClientState) → seat ≡ Some x → new ≡ with_client old id (Some (row x).state)) → new.replicas ≡ old.replicas
replicas_stay {S = S} None step new old id row missing state = ap (λ (s : Seated S). s.replicas) (missing refl).1
replicas_stay {S = S} (Some x) step new old id row missing state = ap (λ (s : Seated S). s.replicas) (state x refl)

-- the client in a seat makes a step, or asks
abbrev pub client_turns : {S : Type 0} → World S → ClientId → (ClientState → ClientOutcome) → Option (Option Client) → Happened S
client_turns w id row (Some (Some x)) = client_goes w id x [] (row x.state)
client_turns w id row (Some None) = no_subject w
client_turns w id row None = no_subject w

pub steps_is : {S : Type 0} (w : World S) (id : ClientId) (event : Event) (o : Option (Option Client)) → client_steps w id event o ≡ client_turns w id (λ x. client_step x event) o
unfolding client_steps
steps_is w id event (Some (Some x)) = refl
steps_is w id event (Some None) = refl
steps_is w id event None = refl

pub asks_is : {S : Type 0} (w : World S) (id : ClientId) (op : List ℕ) (o : Option (Option Client)) → ask_in w id op o ≡ client_turns w id (λ x. ask x op) o
asks_is w id op (Some (Some x)) = refl
asks_is w id op (Some None) = refl
asks_is w id op None = refl

module _ {S : Type 0} (w : World S) (v : Shown S) (s : Shows w v) (id : ClientId) (row : ClientState → ClientOutcome) where
  abbrev client_seat : Option ClientState
  client_seat = correct_in (slice_get v.seats.clients id.0)

  client_sits : client_seat ≡ option_map (λ x. x.state) (correct_in (slice_get w.clients id.0))
  client_sits = client_shown w v.seats s.seats id.0

  no_client : (o : Option (Option Client)) → option_map (λ x. x.state) (correct_in o) ≡ None → client_turns w id row o ≡ no_subject w
  no_client (Some (Some x)) is = absurd cc
  no_client (Some None) is = refl
  no_client None is = refl

  pub no_client_turns : (step : Option ClientStep) (seats : Seated S) → step ≡ None → (client_seat ≡ None → (step ≡ None) × (seats ≡ v.seats))
      → ((x : ClientState) → client_seat ≡ Some x → IsSomeAnd step (IsClientStep x (row x)))
      → (note : Note) (u : Shown S) → ((g : World S) → Shows g (record v { seats = seats }) → GoesTo (no_subject g) note u)
      → GoesTo (client_turns w id row (slice_get w.clients id.0)) note u
  no_client_turns step seats is missing stepped note u goes =
      let none = none_made (λ (x : ClientState). IsClientStep x (row x)) client_seat step is stepped in
      subst (λ (h : Happened S). GoesTo h note u) (sym (no_client (slice_get w.clients id.0) (sym client_sits ∙ none)))
      (goes w (subst (λ (t : Seated S). Shows w (record v { seats = t })) (sym (missing none).1) s))

  -- it is what the client in its seat makes
  pub record IsClientTurn (r : ClientStep) (u : Shown S) : Type 0 where
    pub who : Client
    pub is : client_turns w id row (slice_get w.clients id.0) ≡ client_goes w id who [] (row who.state)
    pub has : HasClientStepped w id who (row who.state) r u

  module _ (step : Option ClientStep) (r : ClientStep) (seats : Seated S) (made : step ≡ Some r) (missing : client_seat ≡ None → (step ≡ None) × (seats ≡ v.seats))
      (stepped : (x : ClientState) → client_seat ≡ Some x → IsSomeAnd step (IsClientStep x (row x)))
      (state : (x : ClientState) → client_seat ≡ Some x → seats ≡ with_client v.seats id.0 (Some (row x).state)) where
    turn_of : (o : Option (Option Client)) → slice_get w.clients id.0 ≡ o → IsClientTurn r (record v { seats = seats })
    turn_of (Some (Some x)) there =
        let here : client_seat ≡ Some x.state = client_sits ∙ ap (λ (o : Option (Option Client)). option_map (λ r. r.state) (correct_in o)) there in
        record {
          who = x;
          is = ap (client_turns w id row) there;
          has = record {
            before = v.seats;
            shows = s;
            there = there;
            after = state x.state here;
            step = subst (λ (o : Option ClientStep). IsSomeAnd o (IsClientStep x.state (row x.state))) made (stepped x.state here);
          };
        }
    turn_of (Some None) there =
        let none = (missing (client_sits ∙ ap (λ (o : Option (Option Client)). option_map (λ r. r.state) (correct_in o)) there)).0 in
        absurd (let both : Some r ≡ None = sym made ∙ none in cc)
    turn_of None there =
        let none = (missing (client_sits ∙ ap (λ (o : Option (Option Client)). option_map (λ r. r.state) (correct_in o)) there)).0 in
        absurd (let both : Some r ≡ None = sym made ∙ none in cc)

    pub client_turn : IsClientTurn r (record v { seats = seats })
    client_turn = turn_of (slice_get w.clients id.0) refl
