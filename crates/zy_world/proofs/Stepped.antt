-- What a world shows after a party made a step.
use Rattle.std.proofs.Common.{◌≡◌, ℕ, Bool, true, false, not, ◌&&◌, ◌||◌, List, ◌++◌, length, map, Option, Some, refl, sym, ap, ◌∙◌, subst}
use Rattle.std.specs.Prelude.{slice_get, slice_set, option_map, nat_eq, if◌then◌else◌}
use Rattle.std.proofs.lemmas.Bool.{eqb-true, eqb-false}
use Rattle.std.proofs.lemmas.List.{length-set, map-set}
use Rattle.zy_base.specs.declared.ids.ClientId.{ClientId}
use Rattle.zy_base.specs.declared.ids.Party.{Party}
use Rattle.zy_base.specs.declared.ids.Party.TheVariants as parties
use Rattle.zy_base.specs.declared.ids.ReplicaId.{ReplicaId}
use Rattle.zy_table.specs.ClientState.{ClientState}
use Rattle.zy_table.specs.State.{State}
use Rattle.zy_world_setup.proofs.SaidLemmas.{same_shown}
use Rattle.zy_world_setup.specs.Said.{Told, AreShown, also_said}
use Rattle.zy_world.specs.Passed.{ArePast}
use Rattle.zy_world.specs.Shown.{Shown, Seated, Keyed, Mutes, Posted, muted_in, seat_of, is_liar_seat, is_correct_seat, with_replica, with_client}
use Rattle.zy_world.specs.Shows.{Shows, ShowsKeys, ShowsMutes, texts_of}
use Rattle.zy_world.specs.declared.seat.Seat.{Seat}
use Rattle.zy_world_law.specs.Events as events
use Rattle.zy_world_law.specs.Setup.{Setup}
use Rattle.zy_world_law.specs.World.{World, Replica, Client, correct_in}
use Rattle.zy_world_law.proofs.Seats.{get_set, get_set_other}
use Rattle.zy_world.proofs.SeatLemmas.{kind_of_set}
use Rattle.zy_world.proofs.ShownSeats.{replica_shown, client_shown}

-- ---- seats of which none changed its kind

module _ {S : Type 0} (before after : Seated S) (same : (party : Party) → seat_of after party ≡ seat_of before party) where
  pub keys_same : (setup : Setup) (used : Party → ℕ) (k : Keyed) → ShowsKeys before setup used k → ShowsKeys after setup used k
  keys_same setup used k shows =
      record {
        keys = λ party lies. shows.keys party (ap is_liar_seat (sym (same party)) ∙ lies);
        within = λ party lies. shows.within party (ap is_liar_seat (sym (same party)) ∙ lies);
      }

  pub past_same : (mutes : Mutes) (bag : Posted) → ArePast before mutes bag → ArePast after mutes bag
  past_same mutes bag past =
      record {
        past = λ number mail below is.
            subst (λ (seat : Seat). (mail.delivered || (mail.dropped || not (is_correct_seat seat))) ≡ true) (sym (same mail.to)) (past.past number mail below is);
        idle = λ number mail below is.
            subst (λ (seat : Seat). (not (mail.delivered || (mail.dropped || not (is_correct_seat seat))) && not (muted_in mutes mail.to)) ≡ false) (sym (same mail.to)) (past.idle number mail below is);
      }

-- ---- a replica

module _ {S : Type 0} (replicas : List (Option (Replica S))) (clients : List (Option Client)) (id : ReplicaId) (x y : Replica S) (there : slice_get replicas id.0 ≡ Some (Some x)) (more : List (List ℕ))
    (says : map (λ remark. remark.text) y.said ≡ map (λ remark. remark.text) x.said ++ more) where
  abbrev replica_texts : Option (Option (Replica S)) → Option (List (List ℕ))
  replica_texts o = option_map (λ r. map (λ remark. remark.text) r.said) (correct_in o)

  said_by_replica : (j : ℕ) (b : Bool) → nat_eq j id.0 ≡ b → replica_texts (slice_get (slice_set replicas id.0 (Some y)) j)
      ≡ (if b then option_map (λ texts. texts ++ more) (replica_texts (slice_get replicas j)) else replica_texts (slice_get replicas j))
  said_by_replica j true same =
      let here : j ≡ id.0 = eqb-true j id.0 same in
      let now : slice_get (slice_set replicas id.0 (Some y)) j ≡ Some (Some y) =
      ap (λ (k : ℕ). slice_get (slice_set replicas id.0 (Some y)) k) here ∙ get_set replicas id.0 (Some y) (Some x) there in
      let was : slice_get replicas j ≡ Some (Some x) = ap (λ (k : ℕ). slice_get replicas k) here ∙ there in
      ap replica_texts now ∙ ap (λ (texts : List (List ℕ)). Some texts) says ∙ sym (ap (λ (o : Option (Option (Replica S))). option_map (λ texts. texts ++ more) (replica_texts o)) was)
  said_by_replica j false other = ap replica_texts (get_set_other replicas id.0 j (Some y) (eqb-false j id.0 other))

  said_after_replica : (other : Party) → texts_of (slice_set replicas id.0 (Some y)) clients other ≡ also_said (texts_of replicas clients) (parties.Replica id) more other
  said_after_replica (parties.Replica j) = said_by_replica j.0 (nat_eq j.0 id.0) refl
  said_after_replica (parties.Client j) = refl

same_after_replica : {S : Type 0} (s : Seated S) (id : ℕ) (a b : State S) → correct_in (slice_get s.replicas id) ≡ Some b → (party : Party) → seat_of (with_replica s id (Some a)) party ≡ seat_of s party
same_after_replica s id a b there (parties.Replica j) = kind_of_set s.replicas id j.0 a b there
same_after_replica s id a b there (parties.Client j) = refl

pub shows_replica : {S : Type 0} (g : World S) (v : Shown S) (id : ReplicaId) (x y : Replica S) (more : List (List ℕ)) (seats : Seated S) (told : Told) → Shows g v → slice_get g.replicas id.0 ≡ Some (Some x)
    → map (λ remark. remark.text) y.said ≡ map (λ remark. remark.text) x.said ++ more → seats ≡ with_replica v.seats id.0 (Some y.state)
    → AreShown (also_said (texts_of g.replicas g.clients) (parties.Replica id) more) told → Shows (events.with_replica g id y) (record v { seats = seats; said = told })
shows_replica {S = S} g v id x y more seats told s there says is said =
    let state : Replica S → State S = λ r. r.state in
    let sits : correct_in (slice_get v.seats.replicas id.0) ≡ Some x.state = replica_shown g v.seats s.seats id.0 ∙ ap (λ (o : Option (Option (Replica S))). option_map state (correct_in o)) there in
    let same : (party : Party) → seat_of seats party ≡ seat_of v.seats party =
    λ party. ap (λ (t : Seated S). seat_of t party) is ∙ same_after_replica v.seats id.0 y.state x.state sits party in
    record {
      setup = s.setup;
      keys = s.keys;
      seats = record {
        of_replicas = map-set (option_map state) g.replicas id.0 (Some y)
            ∙ ap (λ (l : List (Option (State S))). slice_set l id.0 (Some y.state)) s.seats.of_replicas ∙ ap (λ (t : Seated S). t.replicas) (sym is);
        of_clients = s.seats.of_clients ∙ ap (λ (t : Seated S). t.clients) (sym is);
      };
      liars = keys_same v.seats seats same g.setup g.used v.liars s.liars;
      mails = s.mails;
      past = past_same v.seats seats same v.mutes v.bag s.past;
      mutes = subst (λ (n : ℕ). ShowsMutes n (length g.clients) g.muted v.mutes) (sym (length-set g.replicas id.0 (Some y))) s.mutes;
      agreed = s.agreed;
      texts = s.texts;
      said = same_shown (also_said (texts_of g.replicas g.clients) (parties.Replica id) more) (texts_of (slice_set g.replicas id.0 (Some y)) g.clients) told
          (said_after_replica g.replicas g.clients id x y there more says) said;
    }

-- ---- a client

module _ {S : Type 0} (replicas : List (Option (Replica S))) (clients : List (Option Client)) (id : ClientId) (x y : Client) (there : slice_get clients id.0 ≡ Some (Some x)) (more : List (List ℕ))
    (says : y.said ≡ x.said ++ more) where
  abbrev client_texts : Option (Option Client) → Option (List (List ℕ))
  client_texts o = option_map (λ r. r.said) (correct_in o)

  said_by_client : (j : ℕ) (b : Bool) → nat_eq j id.0 ≡ b → client_texts (slice_get (slice_set clients id.0 (Some y)) j)
      ≡ (if b then option_map (λ texts. texts ++ more) (client_texts (slice_get clients j)) else client_texts (slice_get clients j))
  said_by_client j true same =
      let here : j ≡ id.0 = eqb-true j id.0 same in
      let now : slice_get (slice_set clients id.0 (Some y)) j ≡ Some (Some y) =
      ap (λ (k : ℕ). slice_get (slice_set clients id.0 (Some y)) k) here ∙ get_set clients id.0 (Some y) (Some x) there in
      let was : slice_get clients j ≡ Some (Some x) = ap (λ (k : ℕ). slice_get clients k) here ∙ there in
      ap client_texts now ∙ ap (λ (texts : List (List ℕ)). Some texts) says ∙ sym (ap (λ (o : Option (Option Client)). option_map (λ texts. texts ++ more) (client_texts o)) was)
  said_by_client j false other = ap client_texts (get_set_other clients id.0 j (Some y) (eqb-false j id.0 other))

  said_after_client : (other : Party) → texts_of replicas (slice_set clients id.0 (Some y)) other ≡ also_said (texts_of replicas clients) (parties.Client id) more other
  said_after_client (parties.Replica j) = refl
  said_after_client (parties.Client j) = said_by_client j.0 (nat_eq j.0 id.0) refl

same_after_client : {S : Type 0} (s : Seated S) (id : ℕ) (a b : ClientState) → correct_in (slice_get s.clients id) ≡ Some b → (party : Party) → seat_of (with_client s id (Some a)) party ≡ seat_of s party
same_after_client s id a b there (parties.Replica j) = refl
same_after_client s id a b there (parties.Client j) = kind_of_set s.clients id j.0 a b there

pub shows_client : {S : Type 0} (g : World S) (v : Shown S) (id : ClientId) (x y : Client) (more : List (List ℕ)) (seats : Seated S) (told : Told) → Shows g v → slice_get g.clients id.0 ≡ Some (Some x)
    → y.said ≡ x.said ++ more → seats ≡ with_client v.seats id.0 (Some y.state)
    → AreShown (also_said (texts_of g.replicas g.clients) (parties.Client id) more) told → Shows (events.with_client g id y) (record v { seats = seats; said = told })
shows_client {S = S} g v id x y more seats told s there says is said =
    let state : Client → ClientState = λ r. r.state in
    let sits : correct_in (slice_get v.seats.clients id.0) ≡ Some x.state = client_shown g v.seats s.seats id.0 ∙ ap (λ (o : Option (Option Client)). option_map state (correct_in o)) there in
    let same : (party : Party) → seat_of seats party ≡ seat_of v.seats party =
    λ party. ap (λ (t : Seated S). seat_of t party) is ∙ same_after_client v.seats id.0 y.state x.state sits party in
    record {
      setup = s.setup;
      keys = s.keys;
      seats = record {
        of_replicas = s.seats.of_replicas ∙ ap (λ (t : Seated S). t.replicas) (sym is);
        of_clients = map-set (option_map state) g.clients id.0 (Some y)
            ∙ ap (λ (l : List (Option ClientState)). slice_set l id.0 (Some y.state)) s.seats.of_clients ∙ ap (λ (t : Seated S). t.clients) (sym is);
      };
      liars = keys_same v.seats seats same g.setup g.used v.liars s.liars;
      mails = s.mails;
      past = past_same v.seats seats same v.mutes v.bag s.past;
      mutes = subst (λ (n : ℕ). ShowsMutes (length g.replicas) n g.muted v.mutes) (sym (length-set g.clients id.0 (Some y))) s.mutes;
      agreed = s.agreed;
      texts = s.texts;
      said = same_shown (also_said (texts_of g.replicas g.clients) (parties.Client id) more) (texts_of g.replicas (slice_set g.clients id.0 (Some y))) told
          (said_after_client g.replicas g.clients id x y there more says) said;
    }
