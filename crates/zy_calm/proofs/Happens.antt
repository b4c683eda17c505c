-- What one event makes of a world, as far as calm runs read it.
use Rattle.std.proofs.Common.{◌≡◌, ◌⊎◌, inl, inr, ℕ, ◌+◌, ◌-◌, Bool, not, ◌&&◌, List, [], ◌∷◌, ◌++◌, map, Option, Some, None, Result, Ok, Err, refl, sym, ap, ◌∙◌, arith, add-one}
use Rattle.std.proofs.lemmas.Bool.{cases_eq}
use Rattle.std.specs.List.{filter}
use Rattle.std.specs.Prelude.{option_map, slice_get, slice_set}
use Rattle.zy_base.specs.Machine.{Rules}
use Rattle.zy_base.specs.declared.ids.ClientId.{ClientId}
use Rattle.zy_base.specs.declared.ids.Digest.{Digest}
use Rattle.zy_base.specs.declared.ids.Party.{Party}
use Rattle.zy_base.specs.declared.ids.Party.TheVariants.{Client, Replica}
use Rattle.zy_base.specs.declared.ids.ReplicaId.{ReplicaId}
use Rattle.zy_base.specs.declared.step.Event.{Event}
use Rattle.zy_base.specs.declared.step.Event.TheVariants.{Heard, Timer}
use Rattle.zy_base.specs.declared.step.TimerKind.TheVariants as timers
use Rattle.zy_table.specs.ClientRows.{ask, client_step}
use Rattle.zy_table.specs.ClientState.{ClientOutcome, ClientState, client_outgoing}
use Rattle.zy_table.specs.Deeds.{Outcome, outgoing_of}
use Rattle.zy_table.specs.State.{State}
use Rattle.zy_table.specs.Whole.{whole_step}
use Rattle.zy_world_law.proofs.Seats.{get_set, get_set_other, seat_of}
use Rattle.zy_world_law.specs.Events.Broken.{Clash, Forged}
use Rattle.zy_world_law.specs.Events.{Happened, ask_in, bring, bring_to_client, bring_to_replica, client_goes, client_note, client_stepped, client_timer_in, completed_by, deliver, go_with, happens, keeping, replica_goes, replica_note, stepped, unless_forged, with_client, with_done, with_replica}
use Rattle.zy_world_law.specs.Honest.{forger_in}
use Rattle.zy_world_law.specs.Texts.{keep_all, step_texts, texts_in}
use Rattle.zy_world_law.specs.World as world
use Rattle.zy_world_law.specs.World.{Mail, Texts, World, client_at, correct_in, delivered, is_correct, is_told, mail_at, mail_to, next_undelivered, replica_at, texts_said, with_sent}
use Rattle.zy_world_law.specs.declared.event.WorldEvent.TheVariants as events
use Rattle.zy_world_law.specs.declared.note.Note.{Note}
use Rattle.zy_calm.proofs.Leads.{MayCome}
use Rattle.zy_calm.proofs.Queue.{Frames, Hears, IsNext, brought, is_left, more_left, next_is, next_left}

-- ---- seats

-- somebody correct sits there
abbrev pub sits : {A : Type 0} → Option (Option A) → Bool
sits seat = is_told (correct_in seat)

told_map : {A B : Type 0} (f : A → B) (o : Option A) → is_told (option_map f o) ≡ is_told o
told_map f None = refl
told_map f (Some x) = refl

sits_still : {A : Type 0} (seats : List (Option A)) (i j : ℕ) (x y : A) → correct_in (slice_get seats i) ≡ Some y → sits (slice_get (slice_set seats i (Some x)) j) ≡ sits (slice_get seats j)
sits_still seats i j x y there = go (cases_eq j i)
  where
    seat : slice_get seats i ≡ Some (Some y)
    seat = seat_of (slice_get seats i) y there

    go : (j ≡ i) ⊎ (j ≡ i → ⊥) → sits (slice_get (slice_set seats i (Some x)) j) ≡ sits (slice_get seats j)
    go (inl same) =
        ap (λ (k : ℕ). sits (slice_get (slice_set seats i (Some x)) k)) same
        ∙ ap sits (get_set seats i (Some x) (Some y) seat)
        ∙ sym (ap (λ (k : ℕ). sits (slice_get seats k)) same ∙ ap sits seat)
    go (inr other) = ap sits (get_set_other seats i j (Some x) other)

module _ {S : Type 0} where
  -- frames go by flows to just these parties
  abbrev pub DoHear : Hears → World S → Type 0
  DoHear hears w = (party : Party) → is_correct w party && not (w.muted party) ≡ hears party

  -- the frames that flows have left
  abbrev pub Left : Hears → World S → Frames → Type 0
  Left hears w frames = filter (is_left hears) w.bag ≡ map mail_to frames

  pub correct_replica : (w : World S) (id : ℕ) → is_correct w (Replica (record { 0 = id })) ≡ sits (slice_get w.replicas id)
  correct_replica w id = told_map _ (replica_at w id)

  pub correct_client : (w : World S) (id : ℕ) → is_correct w (Client (record { 0 = id })) ≡ sits (slice_get w.clients id)
  correct_client w id = told_map _ (client_at w id)

  -- what a step of a replica leaves of a world
  pub record IsReplicaNext (w v : World S) (id : ℕ) (after : State S) : Type 0 where
    pub replica : world.Replica S
    pub replicas : v.replicas ≡ slice_set w.replicas id (Some replica)
    pub state : replica.state ≡ after
    pub clients : v.clients ≡ w.clients
    pub muted : v.muted ≡ w.muted
    pub setup : v.setup ≡ w.setup

  -- and one of a client
  pub record IsClientNext (w v : World S) (id : ℕ) (after : ClientState) : Type 0 where
    pub client : world.Client
    pub clients : v.clients ≡ slice_set w.clients id (Some client)
    pub state : client.state ≡ after
    pub replicas : v.replicas ≡ w.replicas
    pub muted : v.muted ≡ w.muted
    pub setup : v.setup ≡ w.setup

  pub still_hear : (hears : Hears) (w v : World S) (id : ℕ) (state : State S) (x : world.Replica S) → DoHear hears w → replica_at w id ≡ Some x → IsReplicaNext w v id state → DoHear hears v
  still_hear hears w v id state x hear there next (Replica j) =
      ap (λ (b : Bool). b && not (v.muted (Replica j))) (correct_replica v j.0 ∙ ap (λ (l : List (Option (world.Replica S))). sits (slice_get l j.0)) next.replicas ∙ sits_still w.replicas id j.0 next.replica x there ∙ sym (correct_replica w j.0))
      ∙ ap (λ (m : Party → Bool). is_correct w (Replica j) && not (m (Replica j))) next.muted
      ∙ hear (Replica j)
  still_hear hears w v id state x hear there next (Client j) =
      ap (λ (b : Bool). b && not (v.muted (Client j))) (correct_client v j.0 ∙ ap (λ (l : List (Option world.Client)). sits (slice_get l j.0)) next.clients ∙ sym (correct_client w j.0))
      ∙ ap (λ (m : Party → Bool). is_correct w (Client j) && not (m (Client j))) next.muted
      ∙ hear (Client j)

  pub still_hear_client : (hears : Hears) (w v : World S) (id : ℕ) (state : ClientState) (x : world.Client) → DoHear hears w → client_at w id ≡ Some x → IsClientNext w v id state → DoHear hears v
  still_hear_client hears w v id state x hear there next (Client j) =
      ap (λ (b : Bool). b && not (v.muted (Client j))) (correct_client v j.0 ∙ ap (λ (l : List (Option world.Client)). sits (slice_get l j.0)) next.clients ∙ sits_still w.clients id j.0 next.client x there ∙ sym (correct_client w j.0))
      ∙ ap (λ (m : Party → Bool). is_correct w (Client j) && not (m (Client j))) next.muted
      ∙ hear (Client j)
  still_hear_client hears w v id state x hear there next (Replica j) =
      ap (λ (b : Bool). b && not (v.muted (Replica j))) (correct_replica v j.0 ∙ ap (λ (l : List (Option (world.Replica S))). sits (slice_get l j.0)) next.replicas ∙ sym (correct_replica w j.0))
      ∙ ap (λ (m : Party → Bool). is_correct w (Replica j) && not (m (Replica j))) next.muted
      ∙ hear (Replica j)

  -- ---- an event is honest, or the run breaks

  unforged : (by : Option Party) (h : Happened S) (note : Note) (Holds : World S → Type 0) → MayCome h note Holds → MayCome (unless_forged by h) note Holds
  unforged None h note Holds may = may
  unforged (Some party) h note Holds may = inl (Forged party, refl)

  kept : (w : World S) (change : World S → World S) (note : Note) (Holds : World S → Type 0) (texts : Result Texts Digest) → ((t : Texts) → Holds (change (record w { texts = t }))) → MayCome (go_with w change note texts) note Holds
  kept w change note Holds (Err d) holds = inl (Clash d, refl)
  kept w change note Holds (Ok t) holds = inr (record { world = change (record w { texts = t }); goes = refl; holds = holds t })

  same_happened : (h g : Happened S) (note : Note) (Holds : World S → Type 0) → h ≡ g → MayCome g note Holds → MayCome h note Holds
  same_happened h g note Holds same (inl broken) = inl (broken.0, same ∙ broken.1)
  same_happened h g note Holds same (inr comes) = inr (record { world = comes.world; goes = same ∙ comes.goes; holds = comes.holds })

  -- how a world changes by the step of a replica, and by that of a client
  abbrev replica_change : ReplicaId → world.Replica S → Event → Outcome S → World S → World S
  replica_change id x event o v = with_sent (with_replica v id (stepped v.texts event x o)) (outgoing_of o.state.me.0 o.state.counts.n o.deeds.sent)

  abbrev client_change : ClientId → world.Client → ClientOutcome → World S → World S
  client_change id x o v = with_done (with_sent (with_client v id (client_stepped x o)) (client_outgoing o.state.counts.n o.sent)) id (completed_by x.state o.state)

  module _ (R : Rules S) (hears : Hears) (w : World S) where
    -- ---- the next frame reaches its party

    module _ (y : Party × List ℕ) (others : Frames) (next : IsNext hears w.bag y others) where
      abbrev number : ℕ
      number = next.before + 1

      abbrev marked : World S
      marked = delivered w number (mail_to y)

      mail_is : mail_at w number ≡ Some (mail_to y)
      mail_is = ap (mail_at w) (add-one next.before) ∙ next.is

      pub left_marked : filter (is_left hears) marked.bag ≡ map mail_to others
      left_marked = ap (λ (i : ℕ). filter (is_left hears) (slice_set w.bag i (brought y))) (let e : next.before + 1 - 1 ≡ next.before = omega arith in e) ∙ next.left

      delivered_is : happens R w (events.Deliver number None) ≡ deliver R w number None (Some (mail_to y))
      unfolding happens
      delivered_is = ap (deliver R w number None) mail_is

    -- it is told so of the next delivery, which leads to a world of which this holds
    pub record IsDelivery (note : Note) (Holds : World S → Type 0) : Type 0 where
      pub number : ℕ
      pub next : next_undelivered w ≡ Some number
      pub comes : MayCome (happens R w (events.Deliver number None)) note Holds

    -- its party makes of it what this change says
    reaches : (y : Party × List ℕ) (others : Frames) (note : Note) (Holds : World S → Type 0) (texts : List (List ℕ)) (change : World S → World S) → DoHear hears w → Left hears w (y ∷ others)
        → ((number : ℕ) → bring R w (delivered w number (mail_to y)) y.0 y.1 ≡ unless_forged (forger_in w y.1) (keeping (delivered w number (mail_to y)) texts change note))
        → ((number : ℕ) (t : Texts) → filter (is_left hears) (delivered w number (mail_to y)).bag ≡ map mail_to others → Holds (change (record (delivered w number (mail_to y)) { texts = t })))
        → IsDelivery note Holds
    reaches y others note Holds texts change hear left goes holds =
        let next = next_left hears y others w.bag left in
        let at = marked y others next in
        record {
          number = next.before + 1;
          next = next_is hears w hear y others next;
          comes =
              same_happened _ _ note Holds (delivered_is y others next ∙ goes (next.before + 1))
              (unforged (forger_in w y.1) _ note Holds (kept at change note Holds (keep_all texts at.texts) (λ t. holds (next.before + 1) t (left_marked y others next))));
        }

    pub replica_hears : (id : ℕ) (bytes : List ℕ) (others : Frames) (x : world.Replica S) (o : Outcome S) → DoHear hears w → Left hears w ((Replica (record { 0 = id }), bytes) ∷ others)
        → replica_at w id ≡ Some x → whole_step R x.state (Heard bytes) ≡ o
        → IsDelivery (replica_note (record { 0 = id }) o.answer) (λ v. IsReplicaNext w v id o.state × Left hears v (others ++ filter (λ z. hears z.0) (outgoing_of o.state.me.0 o.state.counts.n o.deeds.sent)))
    replica_hears id bytes others x o hear left there step =
        let y : Party × List ℕ = (Replica (record { 0 = id }), bytes) in
        let sent = outgoing_of o.state.me.0 o.state.counts.n o.deeds.sent in
        let Holds = λ (v : World S). IsReplicaNext w v id o.state × Left hears v (others ++ filter (λ z. hears z.0) sent) in
        reaches y others (replica_note (record { 0 = id }) o.answer) Holds (texts_in bytes ++ step_texts o.deeds.acts) (replica_change (record { 0 = id }) x (Heard bytes) o) hear left
        (λ number. ap (bring_to_replica R w (delivered w number (mail_to y)) (record { 0 = id }) bytes) (seat_of (slice_get w.replicas id) x there)
        ∙ ap (λ (made : Outcome S). unless_forged (forger_in w bytes) (replica_goes (delivered w number (mail_to y)) (record { 0 = id }) x (texts_in bytes) (Heard bytes) made)) step)
        (λ number t others_left. (
          record { replica = stepped t (Heard bytes) x o; replicas = refl; state = refl; clients = refl; muted = refl; setup = refl },
          more_left hears (delivered w number (mail_to y)).bag others sent others_left,
        ))

    pub client_hears : (id : ℕ) (bytes : List ℕ) (others : Frames) (x : world.Client) (o : ClientOutcome) → DoHear hears w → Left hears w ((Client (record { 0 = id }), bytes) ∷ others)
        → client_at w id ≡ Some x → client_step x.state (Heard bytes) ≡ o
        → IsDelivery (client_note (record { 0 = id }) (completed_by x.state o.state) o.answer) (λ v. IsClientNext w v id o.state × Left hears v (others ++ filter (λ z. hears z.0) (client_outgoing o.state.counts.n o.sent)))
    client_hears id bytes others x o hear left there step =
        let y : Party × List ℕ = (Client (record { 0 = id }), bytes) in
        let sent = client_outgoing o.state.counts.n o.sent in
        let Holds = λ (v : World S). IsClientNext w v id o.state × Left hears v (others ++ filter (λ z. hears z.0) sent) in
        reaches y others (client_note (record { 0 = id }) (completed_by x.state o.state) o.answer) Holds (texts_in bytes) (client_change (record { 0 = id }) x o) hear left
        (λ number. ap (bring_to_client w (delivered w number (mail_to y)) (record { 0 = id }) bytes) (seat_of (slice_get w.clients id) x there)
        ∙ ap (λ (made : ClientOutcome). unless_forged (forger_in w bytes) (client_goes (delivered w number (mail_to y)) (record { 0 = id }) x (texts_in bytes) made)) step)
        (λ number t others_left. (
          record { client = client_stepped x o; clients = refl; state = refl; replicas = refl; muted = refl; setup = refl },
          more_left hears (delivered w number (mail_to y)).bag others sent others_left,
        ))

    -- ---- a client asks, or its timer runs out

    by_itself : (happened : Happened S) (id : ℕ) (others : Frames) (x : world.Client) (o : ClientOutcome) → Left hears w others → happened ≡ client_goes w (record { 0 = id }) x [] o
        → MayCome happened (client_note (record { 0 = id }) (completed_by x.state o.state) o.answer)
        (λ v. IsClientNext w v id o.state × Left hears v (others ++ filter (λ z. hears z.0) (client_outgoing o.state.counts.n o.sent)))
    by_itself happened id others x o left is =
        let note = client_note (record { 0 = id }) (completed_by x.state o.state) o.answer in
        let sent = client_outgoing o.state.counts.n o.sent in
        let Holds = λ (v : World S). IsClientNext w v id o.state × Left hears v (others ++ filter (λ z. hears z.0) sent) in
        same_happened _ _ note Holds is
        (kept w (client_change (record { 0 = id }) x o) note Holds (keep_all [] w.texts) (λ t. (record { client = client_stepped x o; clients = refl; state = refl; replicas = refl; muted = refl; setup = refl }, more_left hears w.bag others sent left)))

    pub client_asks : (id : ℕ) (op : List ℕ) (others : Frames) (x : world.Client) (o : ClientOutcome) → Left hears w others → client_at w id ≡ Some x → ask x.state op ≡ o
        → MayCome (happens R w (events.Ask (record { 0 = id }) op)) (client_note (record { 0 = id }) (completed_by x.state o.state) o.answer)
        (λ v. IsClientNext w v id o.state × Left hears v (others ++ filter (λ z. hears z.0) (client_outgoing o.state.counts.n o.sent)))
    unfolding happens
    client_asks id op others x o left there step =
        by_itself (happens R w (events.Ask (record { 0 = id }) op)) id others x o left
        (ap (ask_in w (record { 0 = id }) op) (seat_of (slice_get w.clients id) x there) ∙ ap (client_goes w (record { 0 = id }) x []) step)

    pub client_timer_runs_out : (id : ℕ) (others : Frames) (x : world.Client) (o : ClientOutcome) → Left hears w others → client_at w id ≡ Some x → client_step x.state (Timer timers.Answer) ≡ o
        → MayCome (happens R w (events.Timer (Client (record { 0 = id })) timers.Answer)) (client_note (record { 0 = id }) (completed_by x.state o.state) o.answer)
        (λ v. IsClientNext w v id o.state × Left hears v (others ++ filter (λ z. hears z.0) (client_outgoing o.state.counts.n o.sent)))
    unfolding happens
    client_timer_runs_out id others x o left there step =
        by_itself (happens R w (events.Timer (Client (record { 0 = id })) timers.Answer)) id others x o left
        (ap (client_timer_in w (record { 0 = id }) timers.Answer) (seat_of (slice_get w.clients id) x there) ∙ ap (client_goes w (record { 0 = id }) x []) step)
