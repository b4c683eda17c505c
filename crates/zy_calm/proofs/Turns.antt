-- A frame reaches the live replicas one after another, and each answers a client.
use Rattle.std.proofs.Common.{◌≡◌, ◌⊎◌, inl, inr, ℕ, zero, suc, ◌+◌, ◌<◌, Bool, true, false, ◌||◌, List, [], ◌∷◌, ◌++◌, length, map, replicate, Option, Some, None, refl, sym, ap, ◌∙◌, subst, arith, append_assoc}
use Rattle.std.proofs.lemmas.Bool.{cases_eq, eq-eqb, ne_eqb}
use Rattle.std.proofs.lemmas.List.{length-append, map-append}
use Rattle.std.specs.List.{AllByRecursion, filter}
use Rattle.std.specs.Prelude.{slice_get, if◌then◌else◌}
use Rattle.zy_base.specs.Machine.{Rules}
use Rattle.zy_base.specs.declared.ids.Party.{Party}
use Rattle.zy_base.specs.declared.ids.Party.TheVariants.{Replica}
use Rattle.zy_base.specs.declared.step.Event.TheVariants.{Heard}
use Rattle.zy_table.specs.Deeds.{Outcome, outgoing_of}
use Rattle.zy_table.specs.State.{State}
use Rattle.zy_table.specs.Whole.{whole_step}
use Rattle.zy_world_law.proofs.Seats.{get_set, get_set_other, seat_of}
use Rattle.zy_world_law.specs.Events.{happens, replica_note}
use Rattle.zy_world_law.specs.Runs.{Rest, Run, flow}
use Rattle.zy_world_law.specs.Setup.{Setup}
use Rattle.zy_world_law.specs.World as world
use Rattle.zy_world_law.specs.World.{World, correct_in, replica_at}
use Rattle.zy_world_law.specs.declared.event.WorldEvent.TheVariants as events
use Rattle.zy_world_law.specs.declared.note.Note.{Note}
use Rattle.zy_world_law.specs.declared.note.Note.TheVariants.{Quiet}
use Rattle.zy_calm.proofs.Happens.{DoHear, IsDelivery, IsReplicaNext, Left, replica_hears, still_hear}
use Rattle.zy_calm.proofs.Leads.{Leads, MayCome, already, flow_step, joined, one_event, same_run, weaken}
use Rattle.zy_calm.proofs.Numbers.{AreDifferent, different_behind, is_in}
use Rattle.zy_calm.proofs.Queue.{Frames, Hears}
use Rattle.zy_calm.proofs.Round.{IsAt, Stand}

-- ---- seats

pub same_replica : {S : Type 0} (w v : World S) (id j : ℕ) (state : State S) → IsReplicaNext w v id state → (j ≡ id → ⊥) → replica_at v j ≡ replica_at w j
same_replica w v id j state next other =
    ap (λ (l : List (Option (world.Replica _))). correct_in (slice_get l j)) next.replicas ∙ ap correct_in (get_set_other w.replicas id j (Some next.replica) other)

pub new_replica : {S : Type 0} (w v : World S) (id : ℕ) (state : State S) (x : world.Replica S) → replica_at w id ≡ Some x → (next : IsReplicaNext w v id state) → replica_at v id ≡ Some next.replica
new_replica w v id state x there next =
    ap (λ (l : List (Option (world.Replica _))). correct_in (slice_get l id)) next.replicas
    ∙ ap correct_in (get_set w.replicas id (Some next.replica) (Some x) (seat_of (slice_get w.replicas id) x there))

module _ {S : Type 0} (R : Rules S) (s : Setup) where
  -- a live replica of a world that stands so
  pub record Stands (w : World S) (at : Stand S) (id : ℕ) : Type 0 where
    pub replica : world.Replica S
    pub there : replica_at w id ≡ Some replica
    pub is : IsAt R s at id replica.state

  pub stands_still : (w v : World S) (id j : ℕ) (state : State S) (at : Stand S) → IsReplicaNext w v id state → (j ≡ id → ⊥) → Stands w at j → Stands v at j
  stands_still w v id j state at next other stands = record { replica = stands.replica; there = same_replica w v id j state next other ∙ stands.there; is = stands.is }

  pub stands_anew : (w v : World S) (id : ℕ) (state : State S) (x : world.Replica S) (at : Stand S) → replica_at w id ≡ Some x → IsReplicaNext w v id state → IsAt R s at id state → Stands v at id
  stands_anew w v id state x at there next is = record { replica = next.replica; there = new_replica w v id state x there next; is = subst (IsAt R s at id) (sym next.state) is }

  -- those that are still to come stand as before, the others as after
  abbrev pub stand_of : Stand S → Stand S → List ℕ → ℕ → Stand S
  stand_of before after todo id = if is_in todo id then before else after

  module _ (is_live : ℕ → Bool) (before after : Stand S) where
    abbrev pub AllStand : World S → List ℕ → Type 0
    AllStand w todo = (id : ℕ) → is_live id ≡ true → id < s.counts.n → Stands w (stand_of before after todo id) id

    -- the first of them steps
    pub all_step : (w v : World S) (id : ℕ) (todo : List ℕ) (state : State S) (x : world.Replica S) → is_in todo id ≡ false → replica_at w id ≡ Some x → IsReplicaNext w v id state
        → IsAt R s after id state → AllStand w (id ∷ todo) → AllStand v todo
    all_step w v id todo state x gone there next is all j live inside = go (cases_eq j id)
      where
        go : (j ≡ id) ⊎ (j ≡ id → ⊥) → Stands v (stand_of before after todo j) j
        go (inl same) =
            subst (λ (k : ℕ). Stands v (stand_of before after todo k) k) (sym same)
            (subst (λ (b : Bool). Stands v (if b then before else after) id) (sym gone) (stands_anew w v id state x after there next is))
        go (inr other) =
            stands_still w v id j state (stand_of before after todo j) next other
            (subst (λ (b : Bool). Stands w (if b || is_in todo j then before else after) j) (ne_eqb j id other) (all j live inside))

  module _ (hears : Hears) (is_live : ℕ → Bool) (before after : Stand S) (bytes : List ℕ) (Gives : Type 0) (IsGood : ℕ → Gives → Type 0) (frame_of : ℕ × Gives → Party × List ℕ) where
    -- what a replica makes of the frame, and what it gives its client
    pub record IsTurn (id : ℕ) (state : State S) : Type 0 where
      pub outcome : Outcome S
      pub step : whole_step R state (Heard bytes) ≡ outcome
      pub quiet : replica_note (record { 0 = id }) outcome.answer ≡ Quiet
      pub at : IsAt R s after id outcome.state
      pub gives : Gives
      pub good : IsGood id gives
      pub sent : (m n : ℕ) → filter (λ z. hears z.0) (outgoing_of m n outcome.deeds.sent) ≡ frame_of (id, gives) ∷ []

    -- a replica's number with what it gave
    abbrev pub Given : Type 0
    Given = List (ℕ × Gives)

    abbrev pub numbers_of : Given → List ℕ
    numbers_of given = map (λ x. x.0) given

    abbrev pub frame_to : ℕ → Party × List ℕ
    frame_to id = (Replica (record { 0 = id }), bytes)

    -- Some are still to get the frame; what the others gave lies behind it. Meanwhile no client steps.
    pub record IsTurning (Keeps : List (Option world.Client) → Type 0) (w : World S) (todo : List ℕ) (given : Given) : Type 0 where
      pub hear : DoHear hears w
      pub stand : AllStand is_live before after w todo
      pub live : AllByRecursion (λ id. (is_live id ≡ true) × (id < s.counts.n)) todo
      pub different : AreDifferent (numbers_of given ++ todo)
      pub left : Left hears w (map frame_to todo ++ map frame_of given)
      pub good : AllByRecursion (λ x. IsGood x.0 x.1) given
      pub keeps : Keeps w.clients

    all_more : (P : ℕ × Gives → Type 0) (xs : Given) (x : ℕ × Gives) → AllByRecursion P xs → P x → AllByRecursion P (xs ++ x ∷ [])
    all_more P [] x all one = (one, tt)
    all_more P (y ∷ xs) x all one = (all.0, all_more P xs x all.1 one)

    sends_more : (todo : List ℕ) (given : Given) (x : ℕ × Gives) → (map frame_to todo ++ map frame_of given) ++ frame_of x ∷ [] ≡ map frame_to todo ++ map frame_of (given ++ x ∷ [])
    sends_more todo given x =
        append_assoc (map frame_to todo) (map frame_of given) (frame_of x ∷ [])
        ∙ ap (λ (l : Frames). map frame_to todo ++ l) (sym (map-append frame_of given (x ∷ [])))

    numbers_more : (todo : List ℕ) (given : Given) (x : ℕ × Gives) → numbers_of given ++ x.0 ∷ todo ≡ numbers_of (given ++ x ∷ []) ++ todo
    numbers_more todo given x =
        sym (append_assoc (numbers_of given) (x.0 ∷ []) todo)
        ∙ ap (λ (l : List ℕ). l ++ todo) (sym (map-append (λ (y : ℕ × Gives). y.0) given (x ∷ [])))

    module _ (takes : (id : ℕ) → id < s.counts.n → (state : State S) → IsAt R s before id state → IsTurn id state) (Keeps : List (Option world.Client) → Type 0) where
      -- one of them gets the frame
      module _ (w : World S) (id : ℕ) (todo : List ℕ) (given : Given) (is : IsTurning Keeps w (id ∷ todo) given) where
        here : Stands w before id
        here =
            subst (λ (b : Bool). Stands w (if b || is_in todo id then before else after) id) (eq-eqb id id refl)
            (is.stand id is.live.0.0 is.live.0.1)

        turn : IsTurn id here.replica.state
        turn = takes id is.live.0.1 here.replica.state here.is

        abbrev given_next : Given
        given_next = given ++ (id, turn.gives) ∷ []

        abbrev Next : World S → Type 0
        Next v = IsTurning Keeps v todo given_next

        turns : (v : World S) → IsReplicaNext w v id turn.outcome.state → Left hears v ((map frame_to todo ++ map frame_of given) ++ frame_of (id, turn.gives) ∷ []) → Next v
        turns v next left =
            record {
              hear = still_hear hears w v id turn.outcome.state here.replica is.hear here.there next;
              stand = all_step is_live before after w v id todo turn.outcome.state here.replica (different_behind (numbers_of given) (id ∷ todo) is.different).0 here.there next turn.at is.stand;
              live = is.live.1;
              different = subst AreDifferent (numbers_more todo given (id, turn.gives)) is.different;
              left = left ∙ ap (map world.mail_to) (sends_more todo given (id, turn.gives));
              good = all_more (λ x. IsGood x.0 x.1) given (id, turn.gives) is.good turn.good;
              keeps = subst Keeps (sym next.clients) is.keeps;
            }

        delivery : IsDelivery R hears w Quiet Next
        delivery =
            let d = replica_hears R hears w id bytes (map frame_to todo ++ map frame_of given) here.replica turn.outcome is.hear is.left here.there turn.step in
            record {
              number = d.number;
              next = d.next;
              comes =
                  subst (λ (n : Note). MayCome (happens R w (events.Deliver d.number None)) n Next) turn.quiet
                  (weaken d.comes (λ v both. turns v both.0
                  (both.1 ∙ ap (λ (l : Frames). map world.mail_to ((map frame_to todo ++ map frame_of given) ++ l)) (turn.sent turn.outcome.state.me.0 turn.outcome.state.counts.n))));
            }

      pub turn_step : (w : World S) (id : ℕ) (todo : List ℕ) (given : Given) → IsTurning Keeps w (id ∷ todo) given → (n : ℕ) (rest : Rest S)
          → Leads (flow R (suc n) rest w) (Quiet ∷ []) (flow R n rest) (λ v. (g : Gives) × IsTurning Keeps v todo (given ++ (id, g) ∷ []))
      turn_step w id todo given is n rest =
          let d = delivery w id todo given is in
          same_run _ _ (Quiet ∷ []) (flow R n rest) _ (flow_step R n rest w d.number d.next)
          (one_event _ Quiet (flow R n rest) _ (weaken d.comes (λ v next. ((turn w id todo given is).gives, next))))

      -- all of them do
      pub record AreTurned (w : World S) (count : ℕ) : Type 0 where
        pub given : Given
        pub long : length given ≡ count
        pub is : IsTurning Keeps w [] given

      pub all_turn : (todo : List ℕ) (w : World S) (given : Given) → IsTurning Keeps w todo given → (n all : ℕ) (rest : Rest S) → all ≡ length todo + n
          → Leads (flow R all rest w) (replicate (length todo) Quiet) (flow R n rest) (λ v. AreTurned v (length given + length todo))
      all_turn [] w given is n all rest same =
          same_run _ _ [] (flow R n rest) _ (ap (λ (k : ℕ). flow R k rest w) (let e : all ≡ n = omega (arith, same) in e))
          (already w (flow R n rest) _ (record { given = given; long = (let e : length given ≡ length given + 0 = omega arith in e); is = is }))
      all_turn (id ∷ todo) w given is n zero rest same = absurd (omega (arith, same))
      all_turn (id ∷ todo) w given is n (suc all) rest same =
          joined _ (Quiet ∷ []) (replicate (length todo) Quiet) (flow R all rest) (flow R n rest) _ _ (turn_step w id todo given is all rest)
          (λ v next. longer todo v given (id, next.0) _ (all_turn todo v (given ++ (id, next.0) ∷ []) next.1 n all rest (let e : all ≡ length todo + n = omega (arith, same) in e)))
        where
          longer : (todo : List ℕ) (v : World S) (given : Given) (x : ℕ × Gives) (r : Run S)
              → Leads r (replicate (length todo) Quiet) (flow R n rest) (λ u. AreTurned u (length (given ++ x ∷ []) + length todo))
              → Leads r (replicate (length todo) Quiet) (flow R n rest) (λ u. AreTurned u (length given + suc (length todo)))
          longer todo v given x r leads =
              subst (λ (k : ℕ). Leads r (replicate (length todo) Quiet) (flow R n rest) (λ u. AreTurned u k))
              (let e : length (given ++ x ∷ []) + length todo ≡ length given + suc (length todo) = omega (arith, length-append given (x ∷ [])) in e) leads
