-- What replicas gave reaches its client, one frame after another.
use Rattle.std.proofs.Common.{◌≡◌, ℕ, zero, suc, ◌+◌, List, [], ◌∷◌, ◌++◌, length, map, replicate, Option, Some, None, refl, sym, ap, ◌∙◌, subst, arith}
use Rattle.std.proofs.lemmas.List.{append-nil}
use Rattle.std.specs.List.{AllByRecursion, filter}
use Rattle.std.specs.Prelude.{slice_get, if◌then◌else◌}
use Rattle.zy_base.specs.Machine.{Rules}
use Rattle.zy_base.specs.declared.cause.Cause.TheVariants as causes
use Rattle.zy_base.specs.declared.ids.Party.{Party}
use Rattle.zy_base.specs.declared.ids.Party.TheVariants.{Client}
use Rattle.zy_base.specs.declared.step.Answer.TheVariants.{Refused}
use Rattle.zy_base.specs.declared.step.Event.TheVariants.{Heard}
use Rattle.zy_calm_rows.proofs.ReadAgain.{client_heard}
use Rattle.zy_frames.specs.Frames.{FitsFrame, parts_of, spelling}
use Rattle.zy_frames.specs.declared.frame.Frame.{Frame}
use Rattle.zy_parts.specs.declared.signed.Signed.{Signed}
use Rattle.zy_parts.specs.declared.statements.Ask.{Ask}
use Rattle.zy_seal.specs.Keys.{Keys}
use Rattle.zy_seal.specs.Screening.{screen}
use Rattle.zy_table.specs.ClientRows.{client_step, hear}
use Rattle.zy_table.specs.ClientState.{ClientOutcome, ClientState, client_outgoing, is_waiting, refused}
use Rattle.zy_world_law.proofs.Seats.{get_set, get_set_other, seat_of}
use Rattle.zy_world_law.specs.Events.{client_note, completed_by, happens}
use Rattle.zy_world_law.specs.Runs.{Rest, flow}
use Rattle.zy_world_law.specs.Setup.{Setup, keys_of, sealer_of}
use Rattle.zy_world_law.specs.World as world
use Rattle.zy_world_law.specs.World.{World, client_at, correct_in}
use Rattle.zy_world_law.specs.declared.event.WorldEvent.TheVariants as events
use Rattle.zy_world_law.specs.declared.note.Note.{Note}
use Rattle.zy_world_law.specs.declared.note.Note.TheVariants as notes
use Rattle.zy_calm.proofs.Genuine.{AreAccepted, accepted}
use Rattle.zy_calm.proofs.Happens.{DoHear, IsClientNext, IsDelivery, Left, client_hears, still_hear_client}
use Rattle.zy_calm.proofs.Leads.{Leads, MayCome, already, flow_step, joined, one_event, same_run, weaken}
use Rattle.zy_calm.proofs.Queue.{Frames, Hears}

-- a client of the setup in the first view, with so many requests asked for
pub record IsClientOf (s : Setup) (id number : ℕ) (c : ClientState) : Type 0 where
  pub me : c.me ≡ record { 0 = id }
  pub counts : c.counts ≡ s.counts
  pub keys : c.keys ≡ keys_of s
  pub view : c.known_view ≡ record { 0 = 0 }
  pub stamp : c.stamp ≡ record { 0 = number }
  pub sealer : c.sealer ≡ sealer_of s (Client (record { 0 = id })) number

pub same_client : {S : Type 0} (w v : World S) (id j : ℕ) (state : ClientState) → IsClientNext w v id state → (j ≡ id → ⊥) → client_at v j ≡ client_at w j
same_client w v id j state next other =
    ap (λ (l : List (Option world.Client)). correct_in (slice_get l j)) next.clients ∙ ap correct_in (get_set_other w.clients id j (Some next.client) other)

pub new_client : {S : Type 0} (w v : World S) (id : ℕ) (state : ClientState) (x : world.Client) → client_at w id ≡ Some x → (next : IsClientNext w v id state) → client_at v id ≡ Some next.client
new_client w v id state x there next =
    ap (λ (l : List (Option world.Client)). correct_in (slice_get l id)) next.clients
    ∙ ap correct_in (get_set w.clients id (Some next.client) (Some x) (seat_of (slice_get w.clients id) x there))

-- what is told of what comes too late
abbrev pub late_at : ℕ → Note
late_at client = notes.Refused (Some (Client (record { 0 = client }))) causes.Finished

-- what replicas gave, that everybody can read
pub record AreReadable (s : Setup) (Gives : Type 0) (IsGood : ℕ → Gives → Type 0) (frame_of : Gives → Frame) : Type 0 where
  pub fits : (id : ℕ) (g : Gives) → IsGood id g → FitsFrame (frame_of g)
  pub accepted : (id : ℕ) (g : Gives) → IsGood id g → AreAccepted (keys_of s) (parts_of (frame_of g))

module _ {S : Type 0} (R : Rules S) (s : Setup) (hears : Hears) (client stamp : ℕ) (Gives : Type 0) (IsGood : ℕ → Gives → Type 0) (frame_of : Gives → Frame) (readable : AreReadable s Gives IsGood frame_of)
    (Stays : List (Option (world.Replica S)) → Type 0) (Other : ℕ → Option world.Client → Type 0) where
  abbrev pub Given : Type 0
  Given = List (ℕ × Gives)

  abbrev pub given_from : ℕ × Gives → Party × List ℕ
  given_from x = (Client (record { 0 = client }), spelling (frame_of x.1))

  -- what none of them changes: replicas, and other clients
  pub record IsAround (w : World S) (given : Given) : Type 0 where
    pub hear : DoHear hears w
    pub replicas : Stays w.replicas
    pub others : (id : ℕ) → (id ≡ client → ⊥) → Other id (client_at w id)
    pub left : Left hears w (map given_from given)
    pub good : AllByRecursion (λ x. IsGood x.0 x.1) given

  -- a client's step leaves the others
  pub around_next : (w v : World S) (state : ClientState) (x : world.Client) (given behind : Given) → client_at w client ≡ Some x → IsAround w given → IsClientNext w v client state
      → Left hears v (map given_from behind) → AllByRecursion (λ y. IsGood y.0 y.1) behind → IsAround v behind
  around_next w v state x given behind there is next left good =
      record {
        hear = still_hear_client hears w v client state x is.hear there next;
        replicas = subst Stays (sym next.replicas) is.replicas;
        others = λ id other. subst (Other id) (sym (same_client w v client id state next other)) (is.others id other);
        left = left;
        good = good;
      }

  -- ---- one of them

  module _ (w : World S) (y : ℕ × Gives) (given : Given) (around : IsAround w (y ∷ given)) (x : world.Client) (there : client_at w client ≡ Some x) (keys : x.state.keys ≡ keys_of s) where
    abbrev frame : Frame
    frame = frame_of y.1

    screened : screen x.state.keys (parts_of frame) ≡ None
    screened = ap (λ (k : Keys). screen k (parts_of frame)) keys ∙ accepted (keys_of s) (parts_of frame) (readable.accepted y.0 y.1 around.good.0)

    heard : client_step x.state (Heard (spelling frame)) ≡ hear x.state frame
    heard = client_heard x.state frame (readable.fits y.0 y.1 around.good.0) screened

    -- what its step leads to
    pub received : (o : ClientOutcome) (note : Note) (Holds : World S → Type 0) → hear x.state frame ≡ o → client_note (record { 0 = client }) (completed_by x.state o.state) o.answer ≡ note
        → client_outgoing o.state.counts.n o.sent ≡ [] → ((v : World S) → IsClientNext w v client o.state → IsAround v given → Holds v) → IsDelivery R hears w note Holds
    received o note Holds step told nothing leads =
        let d = client_hears R hears w client (spelling frame) (map given_from given) x o around.hear around.left there (heard ∙ step) in
        record {
          number = d.number;
          next = d.next;
          comes =
              subst (λ (n : Note). MayCome (happens R w (events.Deliver d.number None)) n Holds) told
              (weaken d.comes (λ v both. leads v both.0 (around_next w v o.state x (y ∷ given) given there around both.0 (both.1
              ∙ ap (λ (l : Frames). map world.mail_to (map given_from given ++ filter (λ z. hears z.0) l)) nothing
              ∙ ap (map world.mail_to) (append-nil (map given_from given))) around.good.1)));
        }

  pub step_of : (n : ℕ) (rest : Rest S) (w : World S) (note : Note) (Holds : World S → Type 0) → IsDelivery R hears w note Holds → Leads (flow R (suc n) rest w) (note ∷ []) (flow R n rest) Holds
  step_of n rest w note Holds d = same_run _ _ (note ∷ []) (flow R n rest) Holds (flow_step R n rest w d.number d.next) (one_event _ note (flow R n rest) Holds d.comes)

  -- ---- once its request is complete

  pub record IsServed (w : World S) (given : Given) : Type 0 where
    pub around : IsAround w given
    pub client' : world.Client
    pub there : client_at w client ≡ Some client'
    pub of : IsClientOf s client stamp client'.state
    pub idle : client'.state.waiting ≡ None

  module _ (refuses : (c : ClientState) (id : ℕ) (g : Gives) → IsGood id g → IsClientOf s client stamp c → c.waiting ≡ None → hear c (frame_of g) ≡ refused causes.Finished c) where
    refuses_one : (w : World S) (y : ℕ × Gives) (given : Given) → IsServed w (y ∷ given) → IsDelivery R hears w (late_at client) (λ v. IsServed v given)
    refuses_one w y given is =
        let c = is.client'.state in
        received w y given is.around is.client' is.there is.of.keys (refused causes.Finished c) (late_at client) (λ v. IsServed v given)
        (refuses c y.0 y.1 is.around.good.0 is.of is.idle)
        (ap (λ (o : Option (Signed Ask)). client_note (record { 0 = client }) (if is_waiting o then (if is_waiting o then None else c.done) else None) (Refused causes.Finished)) is.idle)
        refl
        (λ v next around. record {
          around = around;
          client' = next.client;
          there = new_client w v client c is.client' is.there next;
          of = subst (IsClientOf s client stamp) (sym next.state) is.of;
          idle = ap (λ (d : ClientState). d.waiting) next.state ∙ is.idle;
        })

    pub all_late : (given : Given) (w : World S) → IsServed w given → (n all : ℕ) (rest : Rest S) → all ≡ length given + n
        → Leads (flow R all rest w) (replicate (length given) (late_at client)) (flow R n rest) (λ v. IsServed v [])
    all_late [] w is n all rest same = same_run _ _ [] (flow R n rest) _ (ap (λ (k : ℕ). flow R k rest w) (let e : all ≡ n = omega (arith, same) in e)) (already w (flow R n rest) _ is)
    all_late (y ∷ given) w is n zero rest same = absurd (omega (arith, same))
    all_late (y ∷ given) w is n (suc all) rest same =
        joined _ (late_at client ∷ []) (replicate (length given) (late_at client)) (flow R all rest) (flow R n rest) _ _ (step_of all rest w (late_at client) _ (refuses_one w y given is))
        (λ v next. all_late given v next n all rest (let e : all ≡ length given + n = omega (arith, same) in e))
