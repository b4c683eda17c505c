-- What the start shows.
use Rattle.std.proofs.Common.{◌≡◌, ℕ, ◌+◌, ◌<◌, ◌≤◌, Bool, true, false, List, [], ◌∷◌, length, map, replicate, Option, Some, None, refl, sym, ap, ap₂, ◌∙◌, subst, arith, inl, inr}
use Rattle.std.specs.Prelude.{slice_get, slice_index_or, option_map, nat_eq, if◌then◌else◌}
use Rattle.std.specs.List.{list_any, range_with_len}
use Rattle.std.proofs.lemmas.Bool.{cases_lt}
use Rattle.std.proofs.lemmas.List.{length-map, length-replicate, get_or-replicate, get_or_past}
use Rattle.std.proofs.lemmas.List.FromFn.{length-range_with_len, get_or-range_with_len, length-map-range_with_len}
use Rattle.std.proofs.lemmas.Option.{slice_get-map, slice_get-get_or, slice_get_past}
use Rattle.zy_base.specs.Machine.{Rules}
use Rattle.zy_base.specs.declared.ids.Party.{Party}
use Rattle.zy_base.specs.declared.ids.Party.TheVariants as parties
use Rattle.zy_table.specs.ClientState.{client_start}
use Rattle.zy_table.specs.State.{start_of}
use Rattle.zy_world_setup.proofs.SaidLemmas.{same_shown, start_shown}
use Rattle.zy_world_setup.specs.Kept.{IsShown}
use Rattle.zy_world_setup.specs.Said.{none_said}
use Rattle.zy_law.specs.Histories.{origin}
use Rattle.zy_world.specs.Shown.{Shown, Seated, Keyed, Mutes, seat_in, seat_of, is_liar_seat, key_in, muted_in}
use Rattle.zy_world.specs.Shows.{Shows, ShowsSeats, ShowsKeys, ShowsMutes, texts_of}
use Rattle.zy_world.specs.Starting.{replica_seat, client_seat, replica_key, client_key}
use Rattle.zy_world_law.specs.Setup.{Setup, keys_of, sealer_of}
use Rattle.zy_world_law.specs.World.{World, correct_in, first_texts, seats, start, starting_replica, starting_client, texts_said}
use Rattle.zy_world.proofs.ShownSeats.{said_is}

-- ---- a list with an item for each number

number_at : (n q : ℕ) → q < n → slice_get (range_with_len 0 n) q ≡ Some q
number_at n q within =
    let long = length-range_with_len 0 n in
    slice_get-get_or (range_with_len 0 n) q q (omega arith) ∙ ap (λ (m : ℕ). Some m) (get_or-range_with_len 0 n q q within ∙ (let none : 0 + q ≡ q = omega arith in none))

item_at : {A : Type 0} (f : ℕ → A) (n q : ℕ) → q < n → slice_get (map f (range_with_len 0 n)) q ≡ Some (f q)
item_at f n q within = slice_get-map f (range_with_len 0 n) q ∙ ap (λ (o : Option ℕ). option_map f o) (number_at n q within)

item_past : {A : Type 0} (f : ℕ → A) (n q : ℕ) → n ≤ q → slice_get (map f (range_with_len 0 n)) q ≡ None
item_past f n q past = slice_get_past (map f (range_with_len 0 n)) q (let long = length-map-range_with_len f 0 n in omega (arith, long, past))

pub map_through : {A B C : Type 0} (f : B → C) (g : A → B) (h : A → C) (same : (x : A) → f (g x) ≡ h x) (xs : List A) → map f (map g xs) ≡ map h xs
map_through f g h same [] = refl
map_through f g h same (x ∷ xs) = ap₂ (λ y ys. y ∷ ys) (same x) (map_through f g h same xs)

through_if : {A B : Type 0} (f : A → B) (x : A) (b : Bool) → option_map f (if b then None else Some x) ≡ (if b then None else Some (f x))
through_if f x true = refl
through_if f x false = refl

-- ---- the keys of those that lie

lying_key : {A K : Type 0} (x : A) (key : K) (b : Bool) → is_liar_seat (seat_in (Some (if b then None else Some x))) ≡ true → correct_in (Some (if b then Some key else None)) ≡ Some key
lying_key x key true is = refl
lying_key x key false is = absurd cc

pub keys_at : {A K : Type 0} (lying : ℕ → Bool) (starts : ℕ → A) (key : ℕ → K) (n q : ℕ)
    → is_liar_seat (seat_in (slice_get (map (λ id. if lying id then None else Some (starts id)) (range_with_len 0 n)) q)) ≡ true
    → correct_in (slice_get (map (λ id. if lying id then Some (key id) else None) (range_with_len 0 n)) q) ≡ Some (key q)
keys_at {A = A} {K = K} lying starts key n q is = elim (cases_lt q n) [
  | inl within ↦
      ap (λ (o : Option (Option K)). correct_in o) (item_at (λ id. if lying id then Some (key id) else None) n q within)
      ∙ lying_key (starts q) (key q) (lying q) (ap (λ (o : Option (Option A)). is_liar_seat (seat_in o)) (sym (item_at (λ id. if lying id then None else Some (starts id)) n q within)) ∙ is)
  | inr past ↦
      let nobody = ap (λ (o : Option (Option A)). is_liar_seat (seat_in o)) (item_past (λ id. if lying id then None else Some (starts id)) n q past) in
      absurd (let both : false ≡ true = sym nobody ∙ is in cc)
]

-- ---- the world

module _ {S : Type 0} (R : Rules S) (setup : Setup) where
  abbrev g : World S
  g = start R setup

  seats_begun : ShowsSeats g.replicas g.clients (record { replicas = map (replica_seat R setup (keys_of setup)) (range_with_len 0 setup.counts.n); clients = map (client_seat setup (keys_of setup)) (range_with_len 0 setup.clients) })
  unfolding seats
  seats_begun =
      record {
        of_replicas = map_through (option_map (λ x. x.state)) (λ id. if list_any (nat_eq id) setup.liars then None else Some (starting_replica R setup id)) (replica_seat R setup (keys_of setup))
            (λ id. through_if (λ x. x.state) (starting_replica R setup id) (list_any (nat_eq id) setup.liars)) (range_with_len 0 setup.counts.n);
        of_clients = map_through (option_map (λ x. x.state)) (λ id. if list_any (nat_eq id) setup.lying_clients then None else Some (starting_client setup id)) (client_seat setup (keys_of setup))
            (λ id. through_if (λ x. x.state) (starting_client setup id) (list_any (nat_eq id) setup.lying_clients)) (range_with_len 0 setup.clients);
      }

  abbrev seated : Seated S
  seated = record { replicas = map (replica_seat R setup (keys_of setup)) (range_with_len 0 setup.counts.n); clients = map (client_seat setup (keys_of setup)) (range_with_len 0 setup.clients) }

  abbrev keyed : Keyed
  keyed = record { replicas = map (replica_key setup) (range_with_len 0 setup.counts.n); clients = map (client_key setup) (range_with_len 0 setup.clients) }

  key_begun : (party : Party) → is_liar_seat (seat_of seated party) ≡ true → key_in keyed party ≡ Some (sealer_of setup party 0)
  key_begun (parties.Replica id) lies =
      keys_at (λ id. list_any (nat_eq id) setup.liars) (λ id. start_of R setup.interval (record { 0 = id }) setup.counts (keys_of setup) (sealer_of setup (parties.Replica (record { 0 = id })) 0))
      (λ id. sealer_of setup (parties.Replica (record { 0 = id })) 0) setup.counts.n id.0 lies
  key_begun (parties.Client id) lies =
      keys_at (λ id. list_any (nat_eq id) setup.lying_clients) (λ id. client_start (record { 0 = id }) setup.counts (keys_of setup) (sealer_of setup (parties.Client (record { 0 = id })) 0) (record { 0 = 0 }))
      (λ id. sealer_of setup (parties.Client (record { 0 = id })) 0) setup.clients id.0 lies

  keys_begun : ShowsKeys seated setup (λ party. 0) keyed
  keys_begun = record { keys = key_begun; within = λ party lies. omega arith }

  unmarked : (n i : ℕ) → slice_index_or (replicate n false) i false ≡ false
  unmarked n i = elim (cases_lt i n) [
    | inl within ↦ get_or-replicate n i false false within
    | inr past ↦ get_or_past (replicate n false) i false (let long = length-replicate n false in omega (arith, long, past))
  ]

  none_muted : (r c : ℕ) (party : Party) → muted_in (record { replicas = replicate r false; clients = replicate c false }) party ≡ false
  none_muted r c (parties.Replica id) = unmarked r id.0
  none_muted r c (parties.Client id) = unmarked c id.0

  mutes_begun : (r c : ℕ) → r ≡ length seated.replicas → c ≡ length seated.clients
      → ShowsMutes (length g.replicas) (length g.clients) (λ party. false) (record { replicas = replicate r false; clients = replicate c false })
  mutes_begun r c replicas clients =
      record {
        all_replicas = length-replicate r false ∙ replicas ∙ ap length (sym seats_begun.of_replicas) ∙ length-map g.replicas (option_map (λ x. x.state));
        all_clients = length-replicate c false ∙ clients ∙ ap length (sym seats_begun.of_clients) ∙ length-map g.clients (option_map (λ x. x.state));
        marks = none_muted r c;
      }

  pub shows_start : (v : Shown S) (r c : ℕ) → v.setup ≡ setup → v.keys ≡ keys_of setup → v.seats ≡ seated → v.liars ≡ keyed → v.bag ≡ record { mails = []; passed = record { past = 0; idle = 0 } }
      → r ≡ length seated.replicas → c ≡ length seated.clients → v.mutes ≡ record { replicas = replicate r false; clients = replicate c false } → v.agreed ≡ origin → IsShown first_texts v.texts
      → v.said ≡ none_said setup.counts.n setup.liars setup.clients setup.lying_clients → Shows g v
  shows_start v r c setup_is keys_are seats_are liars_are bag_is replicas clients mutes_are agreed_is texts_are said_is_ =
      record {
        setup = sym setup_is;
        keys = sym keys_are;
        seats = subst (λ (s : Seated S). ShowsSeats g.replicas g.clients s) (sym seats_are) seats_begun;
        liars = rw (seats_are, liars_are) keys_begun;
        mails = sym (ap (λ b. b.mails) bag_is);
        past = rw bag_is (record { past = λ before mail below is. absurd (omega (arith, below)); idle = λ before mail below is. absurd (omega (arith, below)) });
        mutes = subst (λ (m : Mutes). ShowsMutes (length g.replicas) (length g.clients) (λ party. false) m) (sym mutes_are) (mutes_begun r c replicas clients);
        agreed = sym agreed_is;
        texts = texts_are;
        said = rw said_is_ (same_shown (texts_said g) (texts_of g.replicas g.clients) (none_said setup.counts.n setup.liars setup.clients setup.lying_clients) (λ party. sym (said_is g party)) (start_shown R setup));
      }
