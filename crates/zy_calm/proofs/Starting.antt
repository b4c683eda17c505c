-- The start, once some replicas are muted.
use Rattle.std.proofs.Common.{◌≡◌, ℕ, ◌+◌, ◌*◌, ◌<◌, ◌≤◌, Bool, true, false, not, ◌&&◌, ◌||◌, List, [], ◌∷◌, ◌++◌, length, map, cond, Option, Some, None, refl, sym, ap, ◌∙◌, subst, arith}
use Rattle.std.proofs.lemmas.Bool.{and_parts, ltb-false, ne_eqb, not-true}
use Rattle.std.proofs.lemmas.List.FromFn.{length-map-range_with_len}
use Rattle.std.specs.List.{AllByRecursion, filter, list_any, range_with_len}
use Rattle.std.specs.Prelude.{nat_eq, nat_lt, slice_get, slice_index_or, if◌then◌else◌}
use Rattle.zy_base.specs.Machine.{Rules}
use Rattle.zy_base.specs.declared.ids.Party.{Party}
use Rattle.zy_base.specs.declared.ids.Party.TheVariants.{Client, Replica}
use Rattle.zy_exec.proofs.ReplayLemmas.{along-nil}
use Rattle.zy_exec.specs.Replay.{Point, origin}
use Rattle.zy_law_normal.proofs.Records.{none_of}
use Rattle.zy_schedule.specs.declared.line.Line.{Line}
use Rattle.zy_world_law.specs.Runs.{Run, run}
use Rattle.zy_world_law.specs.Setup.{Setup}
use Rattle.zy_world_law.specs.World as world
use Rattle.zy_world_law.specs.World.{World, client_at, correct_in, is_correct, is_told, same_party, seats, set_muted, start, starting_client, starting_replica}
use Rattle.zy_calm.proofs.Between.{AreUpTo, IsAsker, IsBetween, IsIdle, IsUpTo, is_live, point_after, stand_at}
use Rattle.zy_calm.proofs.Genuine.{get_map}
use Rattle.zy_calm.proofs.Happens.{correct_client, correct_replica}
use Rattle.zy_calm.proofs.Numbers.{live, range_below}
use Rattle.zy_calm.proofs.Turns.{Stands}
use Rattle.zy_calm.proofs.Queue.{Hears, is_left}
use Rattle.zy_calm.specs.Asks.{mute_line}
use Rattle.zy_calm.specs.Calm as calm

-- ---- seats of the start

seat_at : {A : Type 0} (n : ℕ) (lying : List ℕ) (starts : ℕ → A) (id : ℕ) → id < n → slice_get (seats n lying starts) id ≡ Some (if list_any (nat_eq id) lying then None else Some (starts id))
unfolding seats
seat_at n lying starts id inside =
    get_map (λ i. if list_any (nat_eq i) lying then None else Some (starts i)) 0 n id inside
    ∙ ap (λ (i : ℕ). Some (if list_any (nat_eq i) lying then None else Some (starts i))) (let e : 0 + id ≡ id = omega arith in e)

seats_long : {A : Type 0} (n : ℕ) (lying : List ℕ) (starts : ℕ → A) → length (seats n lying starts) ≡ n
unfolding seats
seats_long n lying starts = length-map-range_with_len _ 0 n

module _ {S : Type 0} (R : Rules S) (s : Setup) where
  -- ---- muting

  abbrev pub replica : ℕ → Party
  replica id = Replica (record { 0 = id })

  abbrev pub mute_all : List ℕ → World S → World S
  mute_all [] w = w
  mute_all (id ∷ muted) w = mute_all muted (set_muted w (replica id) true)

  -- it tells nothing
  pub record IsAsRun (r q : Run S) : Type 0 where
    pub notes : r.notes ≡ q.notes
    pub end : r.end ≡ q.end

  pub muted_runs : (muted : List ℕ) (lines : List Line) (w : World S) → IsAsRun (run R (map mute_line muted ++ lines) w) (run R lines (mute_all muted w))
  unfolding run
  muted_runs [] lines w = record { notes = refl; end = refl }
  muted_runs (id ∷ muted) lines w = let rest = muted_runs muted lines (set_muted w (replica id) true) in record { notes = rest.notes; end = rest.end }

  -- all but who is muted stays
  pub record IsMuted (w v : World S) (muted : List ℕ) : Type 0 where
    pub replicas : v.replicas ≡ w.replicas
    pub clients : v.clients ≡ w.clients
    pub bag : v.bag ≡ w.bag
    pub silent : (id : ℕ) → id < length w.replicas → v.muted (replica id) ≡ (w.muted (replica id) || list_any (nat_eq id) muted)
    pub open_clients : (id : ℕ) → v.muted (Client (record { 0 = id })) ≡ w.muted (Client (record { 0 = id }))

  muted_so : (b m : Bool) → (if b then true else m) ≡ (m || (b || false))
  muted_so true true = refl
  muted_so true false = refl
  muted_so false true = refl
  muted_so false false = refl

  one_muted : (w : World S) (id : ℕ) (b : Bool) → nat_lt id (length w.replicas) ≡ b → IsMuted w (if b then record w { muted = λ other. if same_party other (replica id) then true else w.muted other } else w) (id ∷ [])
  one_muted w id true is =
      record { replicas = refl; clients = refl; bag = refl; silent = λ j inside. muted_so (nat_eq j id) (w.muted (replica j)); open_clients = λ j. refl }
  one_muted w id false is =
      record {
        replicas = refl;
        clients = refl;
        bag = refl;
        silent = λ j inside. unheard j (w.muted (replica j)) (ne_eqb j id (λ same. omega (arith, ltb-false id (length w.replicas) is, inside)));
        open_clients = λ j. refl;
      }
    where
      unheard : (j : ℕ) (m : Bool) → nat_eq j id ≡ false → m ≡ (m || (nat_eq j id || false))
      unheard j true other = refl
      unheard j false other = sym (ap (λ (b : Bool). false || (b || false)) other)

  grouped : (m x y : Bool) → ((m || (x || false)) || y) ≡ (m || (x || y))
  grouped true x y = refl
  grouped false true y = refl
  grouped false false y = refl

  pub all_muted : (muted : List ℕ) (w : World S) → IsMuted w (mute_all muted w) muted
  all_muted [] w = record { replicas = refl; clients = refl; bag = refl; silent = λ j inside. or_nothing (w.muted (replica j)); open_clients = λ j. refl }
    where
      or_nothing : (m : Bool) → m ≡ (m || false)
      or_nothing true = refl
      or_nothing false = refl
  all_muted (id ∷ muted) w =
      let v : World S = set_muted w (replica id) true in
      let one : IsMuted w v (id ∷ []) = one_muted w id (nat_lt id (length w.replicas)) refl in
      let rest = all_muted muted v in
      record {
        replicas = rest.replicas ∙ one.replicas;
        clients = rest.clients ∙ one.clients;
        bag = rest.bag ∙ one.bag;
        silent = λ j inside.
            rest.silent j (subst (λ (l : List (Option (world.Replica S))). j < length l) (sym one.replicas) inside)
            ∙ ap (λ (m : Bool). m || list_any (nat_eq j) muted) (one.silent j inside)
            ∙ grouped (w.muted (replica j)) (nat_eq j id) (list_any (nat_eq j) muted);
        open_clients = λ j. rest.open_clients j ∙ one.open_clients j;
      }

  -- ---- the start, with some muted

  module _ (muted : List ℕ) where
    abbrev pub first_world : World S
    first_world = mute_all muted (start R s)

    abbrev pub hears : Hears
    hears party = is_correct first_world party && not (first_world.muted party)

    is : IsMuted (start R s) first_world muted
    is = all_muted muted (start R s)

    sits_if : {A : Type 0} (b : Bool) (x : A) → is_told (correct_in (Some (if b then None else Some x))) ≡ not b
    sits_if true x = refl
    sits_if false x = refl

    replica_sits : (id : ℕ) → id < s.counts.n → slice_get first_world.replicas id ≡ Some (if list_any (nat_eq id) s.liars then None else Some (starting_replica R s id))
    replica_sits id inside = ap (λ (l : List (Option (world.Replica S))). slice_get l id) is.replicas ∙ seat_at s.counts.n s.liars (starting_replica R s) id inside

    client_sits : (id : ℕ) → id < s.clients → slice_get first_world.clients id ≡ Some (if list_any (nat_eq id) s.lying_clients then None else Some (starting_client s id))
    client_sits id inside = ap (λ (l : List (Option world.Client)). slice_get l id) is.clients ∙ seat_at s.clients s.lying_clients (starting_client s) id inside

    pub hears_live : (id : ℕ) → id < s.counts.n → hears (replica id) ≡ calm.is_live s muted id
    hears_live id inside =
        ap (λ (b : Bool). b && not (first_world.muted (replica id)))
        (correct_replica first_world id ∙ ap (λ (o : Option (Option (world.Replica S))). is_told (correct_in o)) (replica_sits id inside) ∙ sits_if (list_any (nat_eq id) s.liars) (starting_replica R s id))
        ∙ ap (λ (m : Bool). not (list_any (nat_eq id) s.liars) && not m)
        (is.silent id (subst (λ (n : ℕ). id < n) (sym (seats_long s.counts.n s.liars (starting_replica R s))) inside))

    pub hears_client : (id : ℕ) → id < s.clients → list_any (nat_eq id) s.lying_clients ≡ false → hears (Client (record { 0 = id })) ≡ true
    hears_client id inside honest =
        ap (λ (b : Bool). b && not (first_world.muted (Client (record { 0 = id }))))
        (correct_client first_world id ∙ ap (λ (o : Option (Option world.Client)). is_told (correct_in o)) (client_sits id inside) ∙ sits_if (list_any (nat_eq id) s.lying_clients) (starting_client s id) ∙ ap not honest)
        ∙ ap (λ (m : Bool). true && not m) (is.open_clients id)

    -- ---- it is calm

    seat_of_one : {A : Type 0} (b : Bool) (x : A) → b ≡ false → (if b then None else Some x) ≡ Some x
    seat_of_one b x honest = ap (λ (c : Bool). if c then None else Some x) honest

    stands_first : (id : ℕ) → is_live R s hears id ≡ true → id < s.counts.n → Stands R s first_world (stand_at R s hears []) id
    stands_first id live inside =
        let honest : list_any (nat_eq id) s.liars ≡ false = not-true _ (and_parts _ _ (sym (hears_live id inside) ∙ live)).0 in
        let x = starting_replica R s id in
        let none : (point_after R []).place ≡ 0 = ap (λ (q : Point S). q.place) (along-nil R (origin R)) in
        record {
          replica = x;
          there = ap correct_in (replica_sits id inside) ∙ seat_of_one (list_any (nat_eq id) s.liars) x honest;
          is = record {
            calm = record { mode = refl; now = refl; place = sym none; base = refl; orders = refl; slots = sym none; pending = λ client. none_of 64 client.0 };
            me = refl;
            counts = refl;
            keys = refl;
            interval = refl;
            used = 0;
            sealer = refl;
            spent = (let e : 0 ≤ 3 * 0 = omega arith in e);
            locals = tt;
          };
        }

    idle_first : (id : ℕ) → IsAsker R s hears id → IsIdle R s hears (client_at first_world id) id 0
    idle_first id asker =
        let honest : list_any (nat_eq id) s.lying_clients ≡ false = client_honest id asker in
        let x = starting_client s id in
        record {
          client = x;
          there = ap correct_in (client_sits id asker.0) ∙ seat_of_one (list_any (nat_eq id) s.lying_clients) x honest;
          of = record { me = refl; counts = refl; keys = refl; view = refl; stamp = refl; sealer = refl };
          waits = refl;
        }
      where
        client_honest : (id : ℕ) → IsAsker R s hears id → list_any (nat_eq id) s.lying_clients ≡ false
        client_honest id asker =
            not-true (list_any (nat_eq id) s.lying_clients)
            (sym (correct_client first_world id ∙ ap (λ (o : Option (Option world.Client)). is_told (correct_in o)) (client_sits id asker.0) ∙ sits_if (list_any (nat_eq id) s.lying_clients) (starting_client s id))
            ∙ (and_parts (is_correct first_world (Client (record { 0 = id }))) (not (first_world.muted (Client (record { 0 = id })))) asker.1).0)

    pub first_calm : IsBetween R s hears first_world []
    first_calm = record { hear = λ party. refl; stand = stands_first; clients = idle_first; left = ap (filter (is_left hears)) is.bag }

    pub first_up_to : AreUpTo R []
    first_up_to client =
        subst (λ (q : Point S). IsUpTo 0 (slice_index_or q.known client.0 None)) (sym (along-nil R (origin R)))
        (subst (IsUpTo 0) (sym (none_of 64 client.0)) tt)

    same_filter : (p q : ℕ → Bool) (ids : List ℕ) → AllByRecursion (λ id. p id ≡ q id) ids → filter p ids ≡ filter q ids
    same_filter p q [] all = refl
    same_filter p q (id ∷ ids) all =
        ap (λ (b : Bool). cond b (id ∷ filter p ids) (filter p ids)) all.0
        ∙ ap (λ (l : List ℕ). cond (q id) (id ∷ l) l) (same_filter p q ids all.1)

    all_so : (ids : List ℕ) → AllByRecursion (λ id. id < s.counts.n) ids → AllByRecursion (λ id. is_live R s hears id ≡ calm.is_live s muted id) ids
    all_so [] all = tt
    all_so (id ∷ ids) all = (hears_live id all.0, all_so ids all.1)

    pub as_many_live : live (is_live R s hears) s.counts.n ≡ calm.live_of s muted
    as_many_live = same_filter (is_live R s hears) (calm.is_live s muted) (range_with_len 0 s.counts.n) (all_so (range_with_len 0 s.counts.n) (range_below 0 s.counts.n s.counts.n (omega arith)))
