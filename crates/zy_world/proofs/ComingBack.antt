-- Frames are brought in their turns, while replicas are out of their seats.
use Rattle.std.proofs.Common.{◌≡◌, ℕ, ◌+◌, List, [], ◌∷◌, ◌++◌, Option, Some, None, Result, Ok, Err, refl, sym, ap, ap₂, ◌∙◌, length, map, subst, append-nil, arith}
use Rattle.std.specs.List.{AllZip}
use Rattle.std.specs.Prelude.{slice_get, slice_set, IfOk, IfErr}
use Rattle.std.proofs.lemmas.List.{length-map}
use Rattle.zy_base.specs.Machine.{Rules}
use Rattle.zy_base.specs.declared.ids.ClientId.{ClientId}
use Rattle.zy_base.specs.declared.ids.Party.{Party}
use Rattle.zy_base.specs.declared.ids.Party.TheVariants as parties
use Rattle.zy_base.specs.declared.ids.ReplicaId.{ReplicaId}
use Rattle.zy_base.specs.declared.step.Event.TheVariants.{Heard}
use Rattle.zy_base.specs.declared.want.Want.{Want}
use Rattle.zy_table.specs.ClientState.{ClientState}
use Rattle.zy_table.specs.Deeds.{Outcome}
use Rattle.zy_table.specs.State.{State}
use Rattle.zy_table.specs.Whole.{whole_step}
use Rattle.zy_world.specs.Ahead.{AreApart, AreOut, GoesAhead, IsBatch, IsGone, IsJob, MayBeGone, IsTurn, ShowsAhead, ShowsTurns, out_for, turn_of, turn_to}
use Rattle.zy_world.specs.Answered.{GoesTo, HeardTo, IsBrokenBy, client_steps, replica_steps, steps}
use Rattle.zy_world.specs.Flowing.{ComesTo, IsCutOff}
use Rattle.zy_world.specs.Shown.{Shown, Seated, seat_in, with_replicas}
use Rattle.zy_world.specs.Shows.{Shows}
use Rattle.zy_world.specs.Stepping.{HasReplicaStepped, IsReplicaStep}
use Rattle.zy_world.specs.declared.batch.Due.{Due}
use Rattle.zy_world.specs.declared.batch.Turn.{Turn}
use Rattle.zy_world.specs.declared.batch.Turn.TheVariants as turns
use Rattle.zy_world.specs.declared.fault.WorldFault.{WorldFault}
use Rattle.zy_world.specs.declared.fault.WorldFault.TheVariants as faults
use Rattle.zy_world.specs.declared.step.Gone.{Gone}
use Rattle.zy_world.specs.declared.step.Job.{Job}
use Rattle.zy_world.specs.declared.seat.Seat.TheVariants as sat
use Rattle.zy_world.specs.declared.step.ReplicaStep.{ReplicaStep}
use Rattle.zy_world_law.proofs.Seats.{get_set}
use Rattle.zy_world_law.specs.Events.{Happened, bring, happens, replica_goes}
use Rattle.zy_world_law.specs.Events.Broken.{Forged, Clash}
use Rattle.zy_world_law.specs.Runs.{Rest, flow}
use Rattle.zy_world_law.specs.World.{World, Replica, Mail, correct_in, delivered, is_told}
use Rattle.zy_world_law.specs.declared.event.WorldEvent.TheVariants.{Deliver}
use Rattle.zy_world_law.specs.declared.note.Note.{Note}
use Rattle.zy_world.proofs.Flows.{breaks_off, comes_so, delivers}
use Rattle.zy_world.proofs.Heard.{brought_heard}
use Rattle.zy_world.proofs.NextFrames.{bytes_are, goes_to_correct, is_brought, is_next, later, mail, mail_there, next_later, whole_of}
use Rattle.zy_world.proofs.OutOfSeats.{all_made, comes_back}
use Rattle.zy_world.proofs.SeatLemmas.{set_set}
use Rattle.zy_world.proofs.ShownSeats.{replica_shown, whole_seat}

-- two facts of what is answered where it is Ok
pub both_ok : {X F : Type 0} (P Q T : X → Type 0) (r : Result X F) → IfOk r P → IfOk r Q → ((x : X) → P x → Q x → T x) → IfOk r T
both_ok P Q T (Ok x) p q so = so x p q
both_ok P Q T (Err fault) p q so = tt

module _ {M S : Type 0} (R : Rules S) (g : World S) (due : Due) (more : List Due) (old : List (Result (Gone M S) Want)) (v : Shown S) (is : ShowsAhead R g (due ∷ more) old v) where
  abbrev here : World S
  here = delivered g due.number (mail R g due more is.next)

  pub event_is : (party : Party) → due.to ≡ party → happens R g (Deliver due.number None) ≡ bring R g here party due.bytes
  event_is party to = is_brought R g due more is.next ∙ ap (λ (p : Party). bring R g here p due.bytes) to

  -- what is brought by a turn of this number and these bytes
  abbrev pub brought : ℕ → List ℕ → Party → Happened S
  brought number bytes party = bring R g (delivered g number (mail R g due more is.next)) party bytes

  brought_is : (number : ℕ) (bytes : List ℕ) (party : Party) → due.number ≡ number → due.bytes ≡ bytes → bring R g here party due.bytes ≡ brought number bytes party
  brought_is number bytes party numbered spelled = ap₂ (λ (n : ℕ) (b : List ℕ). brought n b party) numbered spelled

  pub turn_is : (number : ℕ) (bytes : List ℕ) (party : Party) → due.to ≡ party → due.number ≡ number → due.bytes ≡ bytes → brought number bytes party ≡ happens R g (Deliver due.number None)
  turn_is number bytes party to numbered spelled = sym (event_is party to ∙ brought_is number bytes party numbered spelled)

  correct_there : (party : Party) → due.to ≡ party → whole_seat g party ≡ sat.Correct
  correct_there party to = subst (λ (p : Party). whole_seat g p ≡ sat.Correct) to (goes_to_correct R g due more is.next)

  -- ---- a replica

  module _ (id : ReplicaId) (to : due.to ≡ parties.Replica id) where
    out : out_for (MayBeGone R) (parties.Replica id) due.bytes (AreOut (MayBeGone R) v.seats.replicas more) is.before old
    out = subst (λ (p : Party). out_for (MayBeGone R) p due.bytes (AreOut (MayBeGone R) v.seats.replicas more) is.before old) to is.out

    pub some_out : old ≡ [] → ⊥
    some_out none =
        subst (λ (l : List (Result (Gone M S) Want)). out_for (MayBeGone R) (parties.Replica id) due.bytes (AreOut (MayBeGone R) v.seats.replicas more) is.before l) none out

    module _ (new : List (Result (Gone M S) Want)) (gone : Gone M S) (taken : old ≡ Ok gone ∷ new) where
      pub one : out_for (MayBeGone R) (parties.Replica id) due.bytes (AreOut (MayBeGone R) v.seats.replicas more) is.before (Ok gone ∷ new)
      one = subst (λ (l : List (Result (Gone M S) Want)). out_for (MayBeGone R) (parties.Replica id) due.bytes (AreOut (MayBeGone R) v.seats.replicas more) is.before l) taken out

      pub who : (x : Replica S) × (slice_get g.replicas id.0 ≡ Some (Some x)) × (one.0 ≡ x.state)
      who =
          whole_of (slice_get g.replicas id.0) one.0
          (ap (λ (o : Option (Option (State S))). correct_in o) (sym one.1) ∙ replica_shown g (record v.seats { replicas = is.before }) is.shows.seats id.0)

      pub its_turn : IsTurn R g due.number (mail R g due more is.next) id who.0 is.before gone v
      its_turn = record {
        shows = is.shows;
        there = mail_there R g due more is.next;
        sits = who.1;
        gone = subst (λ (s : State S). IsGone R s (mail R g due more is.next).bytes gone) who.2 (subst (λ (b : List ℕ). IsGone R one.0 b gone) (sym (bytes_are R g due more is.next)) one.2);
      }

      left : AreOut (MayBeGone R) (slice_set v.seats.replicas id.0 (Some gone.replica)) more (slice_set is.before id.0 (Some gone.replica)) new
      left =
          subst (λ (l : List (Option (State S))). AreOut (MayBeGone R) (slice_set v.seats.replicas id.0 (Some gone.replica)) more l new)
          (set_set is.before id.0 None (Some gone.replica))
          (comes_back (MayBeGone R) id.0 gone.replica v.seats.replicas more (slice_set is.before id.0 None) new (get_set is.before id.0 None (Some one.0) one.1) one.3)

      pub replica_goes_on : (number : ℕ) (note : Note) (w : Shown S) → due.number ≡ number
          → GoesTo (brought number (mail R g due more is.next).bytes (parties.Replica id)) note (with_replicas (λ xs. slice_set is.before id.0 (Some gone.replica)) w)
          → w.seats.replicas ≡ slice_set v.seats.replicas id.0 (Some gone.replica) → GoesAhead R (happens R g (Deliver due.number None)) more new note w
      replica_goes_on number note w numbered goes replicas =
          let made = brought_is number (mail R g due more is.next).bytes (parties.Replica id) numbered (sym (bytes_are R g due more is.next)) ∙ goes.goes in
          record {
            world = goes.world;
            goes = event_is (parties.Replica id) to ∙ made;
            shows = record {
              before = slice_set is.before id.0 (Some gone.replica);
              shows = goes.shows;
              next = next_later R g goes.world due more is.next
                  (later g goes.world due.number (mail R g due more is.next) due.bytes note R (parties.Replica id) (correct_there (parties.Replica id) to) made);
              out = subst (λ (l : List (Option (State S))). AreOut (MayBeGone R) l more (slice_set is.before id.0 (Some gone.replica)) new) (sym replicas) left;
            };
          }

  -- ---- a client

  module _ (id : ClientId) (to : due.to ≡ parties.Client id) where
    pub client_there : whole_seat g (parties.Client id) ≡ sat.Correct
    client_there = correct_there (parties.Client id) to

    pub client_goes_on : (number : ℕ) (bytes : List ℕ) (note : Note) (w : Shown S) → due.number ≡ number → due.bytes ≡ bytes → GoesTo (brought number bytes (parties.Client id)) note (with_replicas (λ xs. is.before) w)
        → w.seats.replicas ≡ v.seats.replicas → GoesAhead R (happens R g (Deliver due.number None)) more old note w
    client_goes_on number bytes note w numbered spelled goes replicas =
        let made = brought_is number bytes (parties.Client id) numbered spelled ∙ goes.goes in
        record {
          world = goes.world;
          goes = event_is (parties.Client id) to ∙ made;
          shows = record {
            before = is.before;
            shows = goes.shows;
            next = next_later R g goes.world due more is.next
                (later g goes.world due.number (mail R g due more is.next) due.bytes note R (parties.Client id) (correct_there (parties.Client id) to) made);
            out = subst (λ (l : List (Option (State S))). AreOut (MayBeGone R) l more is.before old) (sym replicas)
                (subst (λ (p : Party). out_for (MayBeGone R) p due.bytes (AreOut (MayBeGone R) v.seats.replicas more) is.before old) to is.out);
          };
        }

-- ---- turns

replica_turn_to : (number n : ℕ) (id : ReplicaId) (bytes : List ℕ) (party : Party) → turns.Replica number id ≡ turn_to n bytes party → (party ≡ parties.Replica id) × (n ≡ number)
replica_turn_to number n id bytes (parties.Replica j) is = (cc, cc)
replica_turn_to number n id bytes (parties.Client j) is = absurd cc

pub replica_turn : (number : ℕ) (id : ReplicaId) (due : Due) → turns.Replica number id ≡ turn_of due → (due.to ≡ parties.Replica id) × (due.number ≡ number)
replica_turn number id due is = replica_turn_to number due.number id due.bytes due.to is

client_turn_to : (number n : ℕ) (id : ClientId) (bytes b : List ℕ) (party : Party) → turns.Client number id bytes ≡ turn_to n b party → (party ≡ parties.Client id) × (n ≡ number) × (b ≡ bytes)
client_turn_to number n id bytes b (parties.Replica j) is = absurd cc
client_turn_to number n id bytes b (parties.Client j) is = (cc, cc, cc)

pub client_turn : (number : ℕ) (id : ClientId) (bytes : List ℕ) (due : Due) → turns.Client number id bytes ≡ turn_of due → (due.to ≡ parties.Client id) × (due.number ≡ number) × (due.bytes ≡ bytes)
client_turn number id bytes due is = client_turn_to number due.number id bytes due.bytes due.to is

-- the frame of the first of these turns, and those behind it
pub record IsSplit (turn : Turn) (more : List Turn) (dues : List Due) : Type 0 where
  pub due : Due
  pub rest : List Due
  pub whole : dues ≡ due ∷ rest
  pub first : turn ≡ turn_of due
  pub others : more ≡ map turn_of rest

split : (turn : Turn) (more : List Turn) (dues : List Due) → turn ∷ more ≡ map turn_of dues → IsSplit turn more dues
split turn more [] is = absurd cc
split turn more (due ∷ rest) is = record { due = due; rest = rest; whole = refl; first = cc; others = cc }

no_turns : (dues : List Due) → [] ≡ map turn_of dues → dues ≡ []
no_turns [] is = refl
no_turns (due ∷ rest) is = absurd cc

-- all have come back
pub none_is_out : {M S : Type 0} (R : Rules S) (g : World S) (made : List (Result (Gone M S) Want)) (v : Shown S) → ShowsTurns R g [] made v → Shows g v
none_is_out {S = S} R g made v is =
    let ahead = subst (λ (l : List Due). ShowsAhead R g l made v) (no_turns is.dues is.are) is.ahead in
    subst (λ (l : List (Option (State S))). Shows g (with_replicas (λ xs. l) v)) ahead.out.0 ahead.shows

-- ---- what a turn answers

pub ok_so : {X F : Type 0} (P Q : X → Type 0) (r : Result X F) → IfOk r P → ((x : X) → P x → Q x) → IfOk r Q
ok_so P Q (Ok x) p so = so x p
ok_so P Q (Err fault) p so = tt

-- the replica comes back, and nothing else was done yet
pub back_has : {S : Type 0} (m : World S) (id : ReplicaId) (x : Replica S) (o : Outcome S) (step : ReplicaStep) (before : List (Option (State S))) (a : State S) (u u' : Shown S)
    → u' ≡ with_replicas (λ xs. slice_set xs id.0 (Some a)) u → Shows m (with_replicas (λ xs. before) u) → slice_get m.replicas id.0 ≡ Some (Some x) → a ≡ o.state → IsReplicaStep o step
    → HasReplicaStepped m id x o step (with_replicas (λ xs. slice_set before id.0 (Some a)) u')
back_has {S = S} m id x o step before a u u' is shows sits state made =
    subst (λ (v : Shown S). HasReplicaStepped m id x o step (with_replicas (λ xs. slice_set before id.0 (Some a)) v)) (sym is)
    (record {
      before = record u.seats { replicas = before };
      shows = shows;
      there = sits;
      after = ap (λ (s : State S). record u.seats { replicas = slice_set before id.0 (Some s) }) state;
      step = made;
    })

module _ {S : Type 0} (R : Rules S) (w : World S) (number : ℕ) (mail : Mail) (bytes : List ℕ) where
  pub brought_to_replica : (id : ReplicaId) (x : Replica S) (sits : slice_get w.replicas id.0 ≡ Some (Some x)) (v : Shown S) (h : HeardTo (delivered w number mail) bytes v)
      → bring R w (delivered w number mail) (parties.Replica id) bytes
      ≡ replica_goes (record (delivered w number mail) { texts = h.texts }) id x [] (Heard bytes) (whole_step R x.state (Heard bytes))
  unfolding steps replica_steps
  brought_to_replica id x sits v h =
      brought_heard R w number mail (parties.Replica id) bytes (ap (λ (o : Option (Option (Replica S))). seat_in o) sits) v h
      ∙ ap (replica_steps R (record (delivered w number mail) { texts = h.texts }) id (Heard bytes)) sits

  pub brought_to_client : (id : ClientId) → seat_in (slice_get w.clients id.0) ≡ sat.Correct → (v : Shown S) (h : HeardTo (delivered w number mail) bytes v)
      → bring R w (delivered w number mail) (parties.Client id) bytes ≡ client_steps (record (delivered w number mail) { texts = h.texts }) id (Heard bytes) (slice_get w.clients id.0)
  unfolding steps
  brought_to_client id correct v h = brought_heard R w number mail (parties.Client id) bytes correct v h

-- ---- a turn is noted

module _ {M S : Type 0} (R : Rules S) (g : World S) (due : Due) (more : List Due) (old : List (Result (Gone M S) Want)) (v : Shown S) (is : ShowsAhead R g (due ∷ more) old v) (left : ℕ) (notes : List Note) where
  pub turn_comes : (new : List (Result (Gone M S) Want)) (note : Note) (w : Shown S) (after : List Note) → GoesAhead R (happens R g (Deliver due.number None)) more new note w
      → after ≡ notes ++ note ∷ [] → ComesTo (flow R (left + 1)) g (flow R left) notes after (λ u. ShowsAhead R u more new w)
  turn_comes new note w after goes noted = record {
    world = goes.world;
    told = note ∷ [];
    is = goes.shows;
    passes = delivers R left g goes.world due.number note (is_next R g due more is.next) goes.goes;
    notes = noted;
  }

  pub turn_cut : (fault : WorldFault) → IsBrokenBy (happens R g (Deliver due.number None)) fault → IsCutOff (flow R (left + 1)) g notes notes fault
  turn_cut (faults.Forged by) broken =
      record { told = []; stops = breaks_off R left g due.number (Forged by) (is_next R g due more is.next) broken; notes = sym (append-nil notes) }
  turn_cut (faults.Clash digest) broken =
      record { told = []; stops = breaks_off R left g due.number (Clash digest) (is_next R g due more is.next) broken; notes = sym (append-nil notes) }
  turn_cut faults.Want broken = tt

-- ---- the first of the turns that are left

module _ {M S : Type 0} (R : Rules S) (g : World S) (turn : Turn) (more : List Turn) (old : List (Result (Gone M S) Want)) (v : Shown S) (is : ShowsTurns R g (turn ∷ more) old v) where
  pub first_turn : IsSplit turn more is.dues
  first_turn = split turn more is.dues is.are

  pub ahead_of : ShowsAhead R g (first_turn.due ∷ first_turn.rest) old v
  ahead_of = subst (λ (l : List Due). ShowsAhead R g l old v) first_turn.whole is.ahead

  pub turn_noted : (left : ℕ) (notes : List Note) (new : List (Result (Gone M S) Want)) (note : Note) (w : Shown S) (after : List Note)
      → GoesAhead R (happens R g (Deliver first_turn.due.number None)) first_turn.rest new note w → after ≡ notes ++ note ∷ []
      → ComesTo (flow R (left + 1)) g (flow R left) notes after (λ u. ShowsTurns R u more new w)
  turn_noted left notes new note w after goes noted =
      comes_so (flow R (left + 1)) (flow R left) g notes after (λ u. ShowsAhead R u first_turn.rest new w) (λ u. ShowsTurns R u more new w)
      (turn_comes R g first_turn.due first_turn.rest old v ahead_of left notes new note w after goes noted)
      (λ u s. record { dues = first_turn.rest; are = first_turn.others; ahead = s })

-- ---- turn after turn

module _ {M S : Type 0} (R : Rules S) (all : List Turn) (turn : Turn) (rest : List Turn) (left : ℕ) (v : World S) (old : List (Result (Gone M S) Want)) (u : Shown S) (is : all ≡ turn ∷ rest)
    (s : ShowsTurns R v all old u) where
  one_left : length rest + left + 1 ≡ length all + left
  one_left = omega (arith, ap length is)

  first_ahead : ShowsTurns R v (turn ∷ rest) old u
  first_ahead = subst (λ (l : List Turn). ShowsTurns R v l old u) is s

  pub turns_on : (next : Rest S → Rest S) (b c : List Note) (Q : World S → Type 0) → (ShowsTurns R v (turn ∷ rest) old u → ComesTo (flow R (length rest + left + 1)) v next b c Q)
      → ComesTo (flow R (length all + left)) v next b c Q
  turns_on next b c Q comes = subst (λ (n : ℕ). ComesTo (flow R n) v next b c Q) one_left (comes first_ahead)

  pub turns_cut : (b c : List Note) (fault : WorldFault) → (ShowsTurns R v (turn ∷ rest) old u → IsCutOff (flow R (length rest + left + 1)) v b c fault) → IsCutOff (flow R (length all + left)) v b c fault
  turns_cut b c fault cut = subst (λ (n : ℕ). IsCutOff (flow R n) v b c fault) one_left (cut first_ahead)

-- there are as many turns as frames
same_many : (dues : List Due) (all : List Turn) (left : ℕ) → all ≡ map turn_of dues → length all + left ≡ length dues + left
same_many dues all left are = ap (λ (l : List Turn). length l + left) are ∙ ap (λ (n : ℕ). n + left) (length-map dues turn_of)

pub as_many_come : {S W F : Type 0} (R : Rules S) (dues : List Due) (all : List Turn) (left : ℕ) (v : World S) (next : Rest S → Rest S) (b c : List Note) (Q : W → World S → Type 0) (r : Result W F) → all ≡ map turn_of dues
    → IfOk r (λ w. ComesTo (flow R (length all + left)) v next b c (Q w)) → IfOk r (λ w. ComesTo (flow R (length dues + left)) v next b c (Q w))
as_many_come {W = W} R dues all left v next b c Q r are comes =
    subst (λ (n : ℕ). IfOk r (λ (w : W). ComesTo (flow R n) v next b c (Q w))) (same_many dues all left are) comes

pub as_many_cut : {S W : Type 0} (R : Rules S) (dues : List Due) (all : List Turn) (left : ℕ) (v : World S) (b c : List Note) (r : Result W WorldFault) → all ≡ map turn_of dues
    → IfErr r (IsCutOff (flow R (length all + left)) v b c) → IfErr r (IsCutOff (flow R (length dues + left)) v b c)
as_many_cut R dues all left v b c r are cut = subst (λ (n : ℕ). IfErr r (IsCutOff (flow R n) v b c)) (same_many dues all left are) cut

-- where none is left
pub turns_end : {S : Type 0} (R : Rules S) (part : Rest S → Rest S) (all : List Turn) (left : ℕ) (g : World S) (a b : List Note) (P Q : World S → Type 0) → all ≡ []
    → ComesTo part g (flow R (length all + left)) a b P → ((v : World S) → P v → Q v) → ComesTo part g (flow R left) a b Q
turns_end R part all left g a b P Q none far so =
    let same : length all + left ≡ left = omega (arith, ap length none) in
    comes_so part (flow R left) g a b P Q (subst (λ (n : ℕ). ComesTo part g (flow R n) a b P) same far) so

-- ---- all that are next are out

-- those that sit in the seats of replicas are others
pub shows_out : {S : Type 0} (g : World S) (v : Shown S) (seats : Seated S) → Shows g v → seats.clients ≡ v.seats.clients → Shows g (with_replicas (λ xs. v.seats.replicas) (record v { seats = seats }))
shows_out g v seats s same =
    subst (λ (clients : List (Option ClientState)). Shows g (record v { seats = record { replicas = v.seats.replicas; clients = clients } })) (sym same) s

pub job_made : {M S : Type 0} (R : Rules S) (s : State S) (bytes : List ℕ) (job : Job M S) (one : Result (Gone M S) Want) → IsJob s bytes job → MayBeGone R job.replica job.bytes one → MayBeGone R s bytes one
job_made {S = S} R s bytes job one is made =
    subst (λ (t : State S). MayBeGone R t bytes one) is.replica (subst (λ (b : List ℕ). MayBeGone R job.replica b one) is.bytes made)

-- the next ones are out, and each made its step: `v` is what is held before, once it is opened
pub all_ahead : {M S : Type 0} (R : Rules S) (g : World S) (whole v : Shown S) (dues read : List Due) (seats : Seated S) (jobs : List (Job M S)) (made : List (Result (Gone M S) Want))
    → Shows g whole → (batch : IsBatch g dues whole) → v ≡ whole → read ≡ dues → seats.clients ≡ v.seats.clients
    → (AreApart batch.left read (map is_told v.seats.replicas) → AreOut IsJob seats.replicas read v.seats.replicas jobs)
    → AllZip (λ (job : Job M S) (one : Result (Gone M S) Want). MayBeGone R job.replica job.bytes one) jobs made → ShowsAhead R g dues made (record v { seats = seats })
all_ahead {M = M} {S = S} R g whole v dues read seats jobs made s batch opened same clients out steps =
    let apart : AreApart batch.left read (map is_told v.seats.replicas) =
    subst (λ (l : List Due). AreApart batch.left l (map is_told v.seats.replicas)) (sym same)
    (subst (λ (u : Shown S). AreApart batch.left dues (map is_told u.seats.replicas)) (sym opened) batch.apart) in
    record {
      before = v.seats.replicas;
      shows = shows_out g v seats (subst (λ (u : Shown S). Shows g u) (sym opened) s) clients;
      next = batch.next;
      out = all_made IsJob (MayBeGone R) (λ (job : Job M S) (one : Result (Gone M S) Want). MayBeGone R job.replica job.bytes one) (job_made R) seats.replicas dues v.seats.replicas jobs made
          (subst (λ (l : List Due). AreOut IsJob seats.replicas l v.seats.replicas jobs) same (out apart)) steps;
    }
