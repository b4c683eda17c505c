-- One request is served on the fast path.
use Rattle.std.proofs.Common.{◌≡◌, ◌⊎◌, inl, inr, ℕ, zero, suc, ◌+◌, ◌-◌, ◌*◌, ◌<◌, ◌≤◌, Bool, true, false, List, [], ◌∷◌, ◌++◌, length, map, replicate, cond, get_or, Option, Some, None, refl, sym, ap, ◌∙◌, subst, arith, append-nil, append_assoc}
use Rattle.std.proofs.lemmas.Bool.{cases_eq}
use Rattle.std.proofs.lemmas.List.{length-append, replicate-append-replicate}
use Rattle.std.proofs.lemmas.List.Elements.{filter-append}
use Rattle.std.proofs.lemmas.List.Sums.{count_by-le-length}
use Rattle.std.specs.List.{AllByRecursion, filter, range_with_len}
use Rattle.std.specs.Prelude.{is_some, count_by, nat_eq, slice_get, if◌then◌else◌}
use Rattle.zy_admit.specs.Judging.{entry_of}
use Rattle.zy_base.specs.Machine.{Rules}
use Rattle.zy_base.specs.declared.cause.Cause.TheVariants as causes
use Rattle.zy_base.specs.declared.ids.ClientId.{ClientId}
use Rattle.zy_base.specs.declared.ids.Party.{Party}
use Rattle.zy_base.specs.declared.ids.Party.TheVariants.{Client, Replica}
use Rattle.zy_base.specs.declared.ids.ReplicaId.{ReplicaId}
use Rattle.zy_base.specs.declared.step.Answer.TheVariants.{Taken}
use Rattle.zy_calm_rows.proofs.ClientSlots.{counts}
use Rattle.zy_calm_rows.specs.Outcomes.{ordered_calmly, taken_calmly}
use Rattle.zy_calm_rows.specs.Waiting.{Awaits}
use Rattle.zy_chain.specs.declared.entry.Entry.{Entry}
use Rattle.zy_exec.specs.Replay.{Point, origin, step}
use Rattle.zy_frames.specs.Frames.{spelling}
use Rattle.zy_frames.specs.declared.frame.Frame.{Frame}
use Rattle.zy_frames.specs.declared.frame.Frame.TheVariants as frames
use Rattle.zy_parts.specs.declared.signed.Signed.{Signed}
use Rattle.zy_parts.specs.declared.statements.Ask.{Ask}
use Rattle.zy_parts.specs.declared.statements.Order.{Order}
use Rattle.zy_schedule.specs.declared.line.Line.{Line}
use Rattle.zy_seal.specs.Sealing.{signatures_by}
use Rattle.zy_table.specs.ClientRows.{asked, kept_of, next_ask}
use Rattle.zy_table.specs.ClientState.{ClientState, is_waiting}
use Rattle.zy_table.specs.Deeds.{others, outgoing_of}
use Rattle.zy_table.specs.Sending.{copies}
use Rattle.zy_table.specs.State.{State}
use Rattle.zy_table.specs.declared.client.Path.TheVariants.{Fast}
use Rattle.zy_table.specs.declared.client.Response.{Response}
use Rattle.zy_tuple.specs.Bytes.{op_bytes}
use Rattle.zy_world_law.specs.Events.{client_note, happens}
use Rattle.zy_world_law.specs.Runs.{Rest, Run, flow, run}
use Rattle.zy_world_law.specs.Setup.{Setup}
use Rattle.zy_world_law.specs.World as world
use Rattle.zy_world_law.specs.World.{World, client_at, correct_in, next_undelivered}
use Rattle.zy_world_law.specs.declared.event.WorldEvent.TheVariants as events
use Rattle.zy_world_law.specs.declared.note.Note.{Note}
use Rattle.zy_world_law.specs.declared.note.Note.TheVariants as notes
use Rattle.zy_world_law.specs.declared.note.Note.TheVariants.{Quiet}
use Rattle.zy_calm.proofs.Answering as answering
use Rattle.zy_calm.proofs.Answering.{AllKept, IsSound, all_answered}
use Rattle.zy_calm.proofs.Receiving.{AreReadable, IsClientOf, IsServed, new_client, same_client}
use Rattle.zy_calm.proofs.Asking.{MayRun, asked_for, given, heard_copies, is_round, own_ready, own_response, request_after, request_sent, request_taken, to_replica}
use Rattle.zy_calm.proofs.Between.{AreUpTo, IsAsker, IsBetween, IsIdle, asked_as_before, asked_once_more, is_live, newer_than, place_after, point_after, point_next, stand_at, state_along}
use Rattle.zy_calm.proofs.Happens.{DoHear, IsDelivery, IsReplicaNext, Left, client_asks, replica_hears, still_hear, still_hear_client}
use Rattle.zy_calm.proofs.JustAsked.{ask_sent, asks_so, awaits_first, of_after_ask}
use Rattle.zy_calm.proofs.Leads.{Leads, MayCome, flow_step, flowed_out, joined, one_event, same_run, weaken}
use Rattle.zy_calm.proofs.Numbers.{AreDifferent, all_different, among_backups, backups, backups_behind, backups_live, is_in, live}
use Rattle.zy_calm.proofs.Turns.{AreTurned, IsTurn, IsTurning, Stands, all_turn, stand_of, stands_anew, stands_still}
use Rattle.zy_calm.proofs.Queue.{Frames, Hears, none_next}
use Rattle.zy_calm.proofs.Round.{IsAt, IsReady, IsRound, Stand, answer, frame_of, moved, order_after, order_frame, order_sent, order_taken, response, response_ready}
use Rattle.zy_calm.specs.Asks.{CalmAsk, lines_of}
use Rattle.zy_calm.specs.Calm.{IsCalmAsk}
use Rattle.zy_calm.specs.Entries.{asked_in, done_at, entry_after}
use Rattle.zy_calm.specs.Notes.{notes_of}

-- where nothing is counted nothing is kept
none_at : {A : Type 0} (slots : List (Option A)) (i : ℕ) → count_by is_some slots ≡ 0 → get_or slots i None ≡ None
none_at [] i none = refl
none_at (None ∷ slots) zero none = refl
none_at (None ∷ slots) (suc i) none = none_at slots i none
none_at (Some x ∷ slots) i none = absurd (let e : 1 + count_by is_some slots ≡ 0 = sym (counts is_some (Some x) slots) ∙ none in omega (arith, e))

none_so : (P : Response → Type 0) (slots : List (Option Response)) → count_by is_some slots ≡ 0 → AllKept P slots
none_so P [] none = tt
none_so P (None ∷ slots) none = none_so P slots none
none_so P (Some x ∷ slots) none = absurd (let e : 1 + count_by is_some slots ≡ 0 = sym (counts is_some (Some x) slots) ∙ none in omega (arith, e))

all_free : (c : ClientState) (answers : List (ℕ × Response)) → count_by is_some c.responses ≡ 0 → AllByRecursion (λ x. kept_of c x.0 ≡ None) answers
all_free c [] none = tt
all_free c (x ∷ answers) none = (none_at c.responses x.0 none, all_free c answers none)

-- quiet notes in a row
pub quiets : (m n : ℕ) (l : List Note) → replicate m Quiet ++ (replicate n Quiet ++ l) ≡ replicate (m + n) Quiet ++ l
quiets m n l = sym (append_assoc (replicate m Quiet) (replicate n Quiet) l) ∙ ap (λ (front : List Note). front ++ l) (replicate-append-replicate m n Quiet)

-- what a machine has to be
pub record IsMachine {S : Type 0} (R : Rules S) (is_state : S → Type 0) : Type 0 where
  pub starts : is_state R.initial
  pub stays : (q : S) (client : ClientId) (op : List ℕ) → is_state q → is_state (R.next q client op)
  pub short : (q : S) (client : ClientId) (op : List ℕ) → is_state q → length (R.reply q client op) ≤ 1100

-- what a setup has to be, and who hears
pub record IsFit (s : Setup) (hears : Hears) : Type 0 where
  pub some : 1 ≤ s.counts.n
  pub few : s.counts.n ≤ 16
  pub clients : s.clients ≤ 64
  pub small : s.interval ≤ 32
  pub first : hears (Replica (record { 0 = 0 })) ≡ true
  pub fast : 1 ≤ s.counts.fast

module _ {S : Type 0} (R : Rules S) (s : Setup) (hears : Hears) (fit : IsFit s hears) (is_state : S → Type 0) (machine : IsMachine R is_state) where
  abbrev pub count : ℕ
  count = length (live (is_live R s hears) s.counts.n)

  module _ (a : CalmAsk) (before : List Entry) (calm : IsCalmAsk s a) (asker : IsAsker R s hears a.client.0) (inside : length before + 1 < s.interval)
      (lasts : 3 * (length before + 1) ≤ signatures_by s.height) (up_to : AreUpTo R before) where
    abbrev pub client : ℕ
    client = a.client.0

    abbrev pub stamp : ℕ
    stamp = asked_in a.client before

    abbrev pub p : Point S
    p = point_after R before

    abbrev pub op : List ℕ
    op = op_bytes a.op

    abbrev pub ask : Signed Ask
    ask = asked_for R s p client stamp 0 op

    few_asked : stamp ≤ length before
    few_asked = count_by-le-length (λ e. nat_eq e.client.0 a.client.0) before

    pub may_run : (used : ℕ) → used ≤ 3 * length before → MayRun R s p client stamp used op
    may_run used low =
        record {
          some = fit.some;
          few = fit.few;
          clients = fit.clients;
          member = calm.client;
          stamp_low = omega (arith, few_asked, inside, fit.small);
          stamp_left = omega (arith, few_asked, lasts);
          key_left = omega (arith, low, lasts);
          op_short = calm.op;
          next = record {
            inside = (let e : p.place + 1 < s.interval = omega (arith, place_after R before, inside) in e);
            small = fit.small;
            newer = newer_than stamp _ (up_to a.client);
          };
          reply = machine.short p.state a.client op (state_along R is_state machine.stays (origin R) before machine.starts);
        }

    -- ---- the request is on its way

    pub record IsAsked (w : World S) : Type 0 where
      pub hear : DoHear hears w
      pub stand : (id : ℕ) → is_live R s hears id ≡ true → id < s.counts.n → Stands R s w (stand_at R s hears before) id
      pub primary : Stands R s w (stand_at R s hears before) 0
      pub asking : world.Client
      pub there : client_at w client ≡ Some asking
      pub of : IsClientOf s client (stamp + 1) asking.state
      pub awaits : Awaits asking.state ask (answer R s p client ask (given R s p client stamp primary.is.used op)) 0
      pub others : (id : ℕ) → IsAsker R s hears id → (id ≡ client → ⊥) → IsIdle R s hears (client_at w id) id (asked_in (record { 0 = id }) before)
      pub left : Left hears w ((Replica (record { 0 = 0 }), spelling (frames.Request ask)) ∷ [])

    abbrev same_stand : (w v : World S) (at : Stand S) (id : ℕ) → v.replicas ≡ w.replicas → Stands R s w at id → Stands R s v at id
    same_stand w v at id same stands = record { replica = stands.replica; there = ap (λ (l : List (Option (world.Replica S))). correct_in (slice_get l id)) same ∙ stands.there; is = stands.is }

    pub asked_next : (w : World S) → IsBetween R s hears w before → MayCome (happens R w (events.Ask a.client op)) Quiet IsAsked
    asked_next w between =
        let idle = between.clients client asker in
        let c = idle.client.state in
        let first = between.stand 0 fit.first fit.some in
        let may = may_run first.is.used first.is.spent in
        let o = asked c (next_ask c op) in
        let note : client_note a.client (if is_waiting c.waiting then (if is_waiting o.state.waiting then None else o.state.done) else None) Taken ≡ Quiet =
        ap (λ (waits : Option (Signed Ask)). client_note a.client (if is_waiting waits then (if is_waiting o.state.waiting then None else o.state.done) else None) Taken) idle.waits in
        subst (λ (n : Note). MayCome (happens R w (events.Ask a.client op)) n IsAsked) note
        (weaken (client_asks R hears w client op [] idle.client o between.left idle.there (asks_so R s p client stamp first.is.used op may c idle.of idle.waits))
        (λ v both.
        let next = both.0 in
        record {
          hear = still_hear_client hears w v client o.state idle.client between.hear idle.there next;
          stand = λ id live inside_n. same_stand w v (stand_at R s hears before) id next.replicas (between.stand id live inside_n);
          primary = same_stand w v (stand_at R s hears before) 0 next.replicas first;
          asking = next.client;
          there = new_client w v client o.state idle.client idle.there next;
          of = subst (IsClientOf s client (stamp + 1)) (sym next.state) (of_after_ask R s p client stamp first.is.used op may c idle.of idle.waits);
          awaits = subst (λ (d : ClientState). Awaits d ask (answer R s p client ask (given R s p client stamp first.is.used op)) 0) (sym next.state) (awaits_first R s p client stamp first.is.used op may c idle.of idle.waits);
          others = λ id is_asker other. subst (λ (x : Option world.Client). IsIdle R s hears x id (asked_in (record { 0 = id }) before)) (sym (same_client w v client id o.state next other)) (between.clients id is_asker);
          left = both.1 ∙ ap (map world.mail_to) (ask_sent R s p client stamp first.is.used op may c idle.of idle.waits hears fit.first);
        }))

    -- ---- the primary orders it

    module _ (used : ℕ) (low : used ≤ 3 * length before) where
      abbrev pub order : Signed Order
      order = given R s p client stamp used op

      pub round : IsRound R s p client ask order
      round = is_round R s p client stamp used op (may_run used low)

      pub room : 3 * length before + 2 ≤ signatures_by s.height
      room = omega (arith, lasts)

      -- the clients, as they are until an answer comes
      pub record IsWaitedFor (clients : List (Option world.Client)) : Type 0 where
        pub asking : world.Client
        pub there : correct_in (slice_get clients client) ≡ Some asking
        pub of : IsClientOf s client (stamp + 1) asking.state
        pub awaits : Awaits asking.state ask (answer R s p client ask order) 0
        pub others : (id : ℕ) → IsAsker R s hears id → (id ≡ client → ⊥) → IsIdle R s hears (correct_in (slice_get clients id)) id (asked_in (record { 0 = id }) before)

      abbrev pub the_backups : List ℕ
      the_backups = backups (is_live R s hears) s.counts.n

      abbrev pub own : Response
      own = own_response R s p client stamp used op

      abbrev pub stand_before : Stand S
      stand_before = record { point = p; used = 3 * length before + 1; told = length before }

      abbrev pub stand_after : Stand S
      stand_after = record { point = step R p (entry_of ask); used = 3 * length before + 2; told = length before }

      abbrev pub order_bytes : List ℕ
      order_bytes = spelling (frames.Order (order_frame R s p client ask order))

      abbrev pub answer_from : ℕ × Response → Party × List ℕ
      answer_from x = (Client (record { 0 = client }), spelling (frame_of R s p client ask order x.1))

      -- a live replica runs the order and answers
      pub takes_order : (id : ℕ) → id < s.counts.n → (state : State S) → IsAt R s stand_before id state
          → IsTurn R s hears (is_live R s hears) stand_before stand_after order_bytes Response (IsReady R s p client ask order) answer_from id state
      takes_order id inside_n state is =
          let left : stand_before.used + 1 ≤ signatures_by s.height = omega (arith, room) in
          let gets = response R s p client ask order round stand_before refl id inside_n state is left in
          record {
            outcome = taken_calmly R p state (order_frame R s p client ask order);
            step = order_taken R s p client ask order round stand_before refl id inside_n state is left;
            quiet = refl;
            at = moved _ stand_after (order_after R s p client ask order round stand_before refl id inside_n state is left) refl (omega arith) (omega arith);
            gives = gets;
            good = response_ready R s p client ask order round stand_before refl id inside_n state is left;
            sent = λ m n.
                ap (filter (λ z. hears z.0)) (order_sent R s p client ask order round stand_before refl id inside_n state is left m n)
                ∙ ap (λ (b : Bool). cond b (answer_from (id, gets) ∷ []) []) asker.1;
          }

      abbrev pub Ordering : World S → List ℕ → List (ℕ × Response) → Type 0
      Ordering w todo answers = IsTurning R s hears (is_live R s hears) stand_before stand_after order_bytes Response (IsReady R s p client ask order) answer_from IsWaitedFor w todo answers

      pub order_goes : (w : World S) (asked : IsAsked w) → asked.primary.is.used ≡ used → IsDelivery R hears w Quiet (λ v. Ordering v the_backups ((0, own) ∷ []))
      order_goes w asked its =
          let x = asked.primary.replica in
          let is = asked.primary.is in
          let at = stand_at R s hears before in
          let may = may_run used low in
          let o = ordered_calmly R p x.state ask in
          let d = replica_hears R hears w 0 (spelling (frames.Request ask)) [] x o asked.hear asked.left asked.primary.there (request_taken R s p client stamp used op may at refl x.state is its room) in
          let sent : filter (λ z. hears z.0) (outgoing_of o.state.me.0 o.state.counts.n o.deeds.sent) ≡ map (to_replica hears (spelling (frames.Order (order_frame R s p client ask order)))) (filter (is_live R s hears) (filter (λ id. if nat_eq id o.state.me.0 then false else true) (range_with_len 0 o.state.counts.n))) ++ (Client (record { 0 = client }), spelling (frame_of R s p client ask order own)) ∷ [] =
          ap (filter (λ z. hears z.0)) (request_sent R s p client stamp used op may at refl x.state is its room o.state.me.0 o.state.counts.n)
          ∙ filter-append (λ z. hears z.0) (copies (spelling (frames.Order (order_frame R s p client ask order))) (others o.state.me.0 o.state.counts.n)) ((Client (record { 0 = client }), spelling (frame_of R s p client ask order own)) ∷ [])
          ∙ ap (λ (l : Frames). l ++ filter (λ z. hears z.0) ((Client (record { 0 = client }), spelling (frame_of R s p client ask order own)) ∷ []))
          (heard_copies hears (spelling (frames.Order (order_frame R s p client ask order))) (filter (λ id. if nat_eq id o.state.me.0 then false else true) (range_with_len 0 o.state.counts.n)))
          ∙ ap (λ (b : Bool). map (to_replica hears (spelling (frames.Order (order_frame R s p client ask order)))) (filter (is_live R s hears) (filter (λ id. if nat_eq id o.state.me.0 then false else true) (range_with_len 0 o.state.counts.n))) ++ cond b ((Client (record { 0 = client }), spelling (frame_of R s p client ask order own)) ∷ []) []) asker.1 in
          record {
            number = d.number;
            next = d.next;
            comes = weaken d.comes (λ v both.
                let next = both.0 in
                record {
                  hear = still_hear hears w v 0 o.state x asked.hear asked.primary.there next;
                  stand = λ id is_id inside_n. ordered_stand w v asked its next id is_id inside_n (cases_eq id 0);
                  live = backups_live (is_live R s hears) s.counts.n;
                  different = all_different (is_live R s hears) fit.first s.counts.n fit.some;
                  left = both.1 ∙ ap (map world.mail_to) (sent
                      ∙ ap (λ (me : ReplicaId). map (to_replica hears (spelling (frames.Order (order_frame R s p client ask order)))) (filter (is_live R s hears) (filter (λ id. if nat_eq id me.0 then false else true) (range_with_len 0 o.state.counts.n))) ++ (Client (record { 0 = client }), spelling (frame_of R s p client ask order own)) ∷ []) is.me
                      ∙ ap (λ counts. map (to_replica hears (spelling (frames.Order (order_frame R s p client ask order)))) (filter (is_live R s hears) (filter (λ id. if nat_eq id 0 then false else true) (range_with_len 0 counts.n))) ++ (Client (record { 0 = client }), spelling (frame_of R s p client ask order own)) ∷ []) is.counts);
                  good = (own_ready R s p client stamp used op may (let e : used + 1 < signatures_by s.height = omega (arith, low, lasts) in e), tt);
                  keeps = subst IsWaitedFor (sym next.clients) (record { asking = asked.asking; there = asked.there; of = asked.of; awaits = subst (λ (n : ℕ). Awaits asked.asking.state ask (answer R s p client ask (given R s p client stamp n op)) 0) its asked.awaits; others = asked.others });
                });
          }
        where
          ordered_stand : (w v : World S) (asked : IsAsked w) (its : asked.primary.is.used ≡ used) → IsReplicaNext w v 0 (ordered_calmly R p asked.primary.replica.state ask).state → (id : ℕ) → is_live R s hears id ≡ true → id < s.counts.n → (id ≡ 0) ⊎ (id ≡ 0 → ⊥)
              → Stands R s v (stand_of R s stand_before stand_after the_backups id) id
          ordered_stand w v asked its next id is_id inside_n (inl same) =
              let gone : is_in the_backups 0 ≡ false = (all_different (is_live R s hears) fit.first s.counts.n fit.some).0 in
              subst (λ (k : ℕ). Stands R s v (stand_of R s stand_before stand_after the_backups k) k) (sym same)
              (subst (λ (b : Bool). Stands R s v (if b then stand_before else stand_after) 0) (sym gone)
              (stands_anew R s w v 0 _ asked.primary.replica stand_after asked.primary.there next
              (request_after R s p client stamp used op (may_run used low) (stand_at R s hears before) refl asked.primary.replica.state asked.primary.is its room)))
          ordered_stand w v asked its next id is_id inside_n (inr other) =
              let old = asked.stand id is_id inside_n in
              let among : is_in the_backups id ≡ true = among_backups (is_live R s hears) s.counts.n id is_id inside_n other in
              subst (λ (b : Bool). Stands R s v (if b then stand_before else stand_after) id) (sym among)
              (stands_still R s w v 0 id _ stand_before next other (record { replica = old.replica; there = old.there; is = moved (stand_at R s hears before) stand_before old.is refl (omega arith) (omega arith) }))

      -- ---- the answers come

      -- a live replica that stands so
      pub record HasRun (at : Stand S) (replicas : List (Option (world.Replica S))) (id : ℕ) : Type 0 where
        pub replica : world.Replica S
        pub there : correct_in (slice_get replicas id) ≡ Some replica
        pub is : IsAt R s at id replica.state

      abbrev pub HaveRun : Stand S → List (Option (world.Replica S)) → Type 0
      HaveRun at replicas = (id : ℕ) → is_live R s hears id ≡ true → id < s.counts.n → HasRun at replicas id

      abbrev pub IsOtherIdle : ℕ → Option world.Client → Type 0
      IsOtherIdle id o = IsAsker R s hears id → IsIdle R s hears o id (asked_in (record { 0 = id }) before)

      abbrev pub Answering : World S → ℕ → List (ℕ × Response) → Type 0
      Answering w kept answers = answering.IsAnswering R s hears client (stamp + 1) p ask order round (HaveRun stand_after) IsOtherIdle w kept answers

      abbrev Answered : World S → Type 0
      Answered w = answering.AnswersServed R s hears client (stamp + 1) p ask order round (HaveRun stand_after) IsOtherIdle w []

      pub answering_begins : (w : World S) (answers : List (ℕ × Response)) → Ordering w [] answers → Answering w 0 answers
      answering_begins w answers is =
          record {
            around = record {
              hear = is.hear;
              replicas = λ id is_id inside_n. (let st : Stands R s w stand_after id = is.stand id is_id inside_n in record { replica = st.replica; there = st.there; is = st.is });
              others = λ id other is_asker. is.keeps.others id is_asker other;
              left = is.left;
              good = is.good;
            };
            client' = is.keeps.asking;
            there = is.keeps.there;
            of = is.keeps.of;
            awaits = is.keeps.awaits;
            free = all_free is.keeps.asking.state answers is.keeps.awaits.count;
            sound = none_so (λ (r : Response). IsSound s r.spec) is.keeps.asking.state.responses is.keeps.awaits.count;
            different = subst AreDifferent (append-nil (map (λ (x : ℕ × Response). x.0) answers)) is.different;
          }

      -- and then the next may ask
      abbrev pub e : Entry
      e = entry_after before a

      pub longer : length (before ++ e ∷ []) ≡ length before + 1
      longer = length-append before (e ∷ [])

      -- its client has what it asked for, and has heard all that was given to it; live replicas stand so
      pub calm_again : {Gives : Type 0} {IsGood : ℕ → Gives → Type 0} {frame : Gives → Frame} {readable : AreReadable s Gives IsGood frame} (at : Stand S) → at.point ≡ step R p (entry_of ask) → at.used ≤ 3 * length before + 3
          → at.told ≤ length before + 1 → (w : World S) → IsServed R s hears client (stamp + 1) Gives IsGood frame readable (HaveRun at) IsOtherIdle w [] → IsBetween R s hears w (before ++ e ∷ [])
      calm_again at same few told w over =
          record {
            hear = over.around.hear;
            stand = λ id is_id inside_n.
                (let run_it = over.around.replicas id is_id inside_n in
                record { replica = run_it.replica; there = run_it.there; is = moved at (stand_at R s hears (before ++ e ∷ [])) run_it.is (same ∙ sym (point_next R before e)) (omega (arith, longer, few)) (omega (arith, longer, told)) });
            clients = λ id is_asker. idle_again id is_asker (cases_eq id client);
            left = over.around.left;
          }
        where
          idle_again : (id : ℕ) → IsAsker R s hears id → (id ≡ client) ⊎ (id ≡ client → ⊥) → IsIdle R s hears (client_at w id) id (asked_in (record { 0 = id }) (before ++ e ∷ []))
          idle_again id is_asker (inl same_id) =
              subst (λ (k : ℕ). IsIdle R s hears (client_at w k) k (asked_in (record { 0 = k }) (before ++ e ∷ []))) (sym same_id)
              (subst (λ (k : ℕ). IsIdle R s hears (client_at w client) client k) (sym (asked_once_more before a)) (record { client = over.client'; there = over.there; of = over.of; waits = over.idle }))
          idle_again id is_asker (inr other) =
              subst (λ (k : ℕ). IsIdle R s hears (client_at w id) id k) (sym (asked_as_before (record { 0 = id }) before a other)) (over.around.others id other is_asker)

      -- ---- the flow

      abbrev fast : ℕ
      fast = s.counts.fast

      abbrev done_note : Note
      done_note = notes.Done a.client (done_at R Fast before e)

      abbrev late : Note
      late = notes.Refused (Some (Client a.client)) causes.Finished

      abbrev answer_notes : List Note
      answer_notes = replicate (fast - 1) Quiet ++ done_note ∷ replicate (count - fast) late

      pub counted : count ≡ 1 + length the_backups
      counted = ap length (backups_behind (is_live R s hears) fit.first s.counts.n fit.some) ∙ (let same : suc (length the_backups) ≡ 1 + length the_backups = omega arith in same)

      answers_come : fast ≤ count → (w : World S) (answers : List (ℕ × Response)) → length answers ≡ count → Ordering w [] answers → (n all : ℕ) (rest : Rest S) → all ≡ count + n
          → Leads (flow R all rest w) answer_notes (flow R n rest) Answered
      answers_come enough w answers long is n all rest same =
          all_answered R s hears client (stamp + 1) p ask order round (HaveRun stand_after) IsOtherIdle answers w 0 (fast - 1) (count - fast) (answering_begins w answers is)
          (omega (arith, fit.fast)) (omega (arith, long, enough, fit.fast)) n all rest (omega (arith, same, long))

      abbrev flow_notes : List Note
      flow_notes = Quiet ∷ replicate (length the_backups) Quiet ++ answer_notes

      abbrev Again : World S → Type 0
      Again w = IsBetween R s hears w (before ++ e ∷ [])

      none_left : (w : World S) → Answered w → next_undelivered w ≡ None
      none_left w served = none_next hears w served.around.hear served.around.left

      pub weaker_end : {r : Run S} {ns : List Note} {rest : Rest S} {First Second : World S → Type 0} → Leads r ns rest First → ((w : World S) → First w → Second w) → Leads r ns rest Second
      weaker_end (inl broken) more = inl broken
      weaker_end (inr on) more = inr (record { world = on.world; holds = more on.world on.holds; told = on.told; ended = on.ended })

      pub request_step : (w : World S) (asked : IsAsked w) → asked.primary.is.used ≡ used → (n : ℕ) (rest : Rest S) → Leads (flow R (suc n) rest w) (Quiet ∷ []) (flow R n rest) (λ v. Ordering v the_backups ((0, own) ∷ []))
      request_step w asked its n rest =
          let d = order_goes w asked its in
          let Next = λ (v : World S). Ordering v the_backups ((0, own) ∷ []) in
          same_run _ _ (Quiet ∷ []) (flow R n rest) Next (flow_step R n rest w d.number d.next) (one_event _ Quiet (flow R n rest) Next d.comes)

      -- all that ran the order, with their answers
      abbrev pub Ordered : World S → Type 0
      Ordered v = AreTurned R s hears (is_live R s hears) stand_before stand_after order_bytes Response (IsReady R s p client ask order) answer_from takes_order IsWaitedFor v (1 + length the_backups)

      pub all_order : (w : World S) → Ordering w the_backups ((0, own) ∷ []) → (n all : ℕ) (rest : Rest S) → all ≡ length the_backups + n → Leads (flow R all rest w) (replicate (length the_backups) Quiet) (flow R n rest) Ordered
      all_order w ordering n all rest same =
          all_turn R s hears (is_live R s hears) stand_before stand_after order_bytes Response (IsReady R s p client ask order) answer_from takes_order IsWaitedFor the_backups w ((0, own) ∷ []) ordering n all rest same

      flow_serves : fast ≤ count → count ≤ s.counts.n → (w : World S) (asked : IsAsked w) → asked.primary.is.used ≡ used → (all : ℕ) (rest : Rest S) → 2 * s.counts.n ≤ all → Leads (flow R all rest w) flow_notes rest Again
      flow_serves enough few w asked its zero rest long = absurd (omega (arith, few, counted, long))
      flow_serves enough few w asked its (suc all) rest long =
          let behind : ℕ = all - length the_backups in
          let n : ℕ = behind - count in
          let first = request_step w asked its all rest in
          joined _ (Quiet ∷ []) (replicate (length the_backups) Quiet ++ answer_notes) (flow R all rest) rest _ Again first
          (λ v ordering. joined _ (replicate (length the_backups) Quiet) answer_notes (flow R behind rest) rest _ Again
          (all_order v ordering behind all rest (omega (arith, few, counted, long)))
          (λ u ordered. weaker_end (flowed_out R n rest _ answer_notes Answered none_left
          (answers_come enough u ordered.given (ordered.long ∙ sym counted) ordered.is n behind rest (omega (arith, few, counted, long))))
          (λ x served. calm_again stand_after refl (omega arith) (omega arith) x served)))

    -- ---- the ask and its flow

    pub ask_served : s.counts.fast ≤ count → count ≤ s.counts.n → (w : World S) (more : List Line) → IsBetween R s hears w before
        → Leads (run R (lines_of Fast a ++ more) w) (notes_of R s.counts Fast count before (entry_after before a)) (run R more) (λ v. IsBetween R s hears v (before ++ entry_after before a ∷ []))
    unfolding run
    ask_served enough few w more between =
        let tail : List Note = notes.Done a.client (done_at R Fast before (entry_after before a)) ∷ replicate (count - s.counts.fast) (notes.Refused (Some (Client a.client)) causes.Finished) in
        let j : ℕ = length (backups (is_live R s hears) s.counts.n) in
        let all_quiet : Quiet ∷ Quiet ∷ replicate j Quiet ++ (replicate (s.counts.fast - 1) Quiet ++ tail) ≡ replicate (1 + count + (s.counts.fast - 1)) Quiet ++ tail =
        quiets (suc (suc j)) (s.counts.fast - 1) tail
        ∙ ap (λ (k : ℕ). replicate k Quiet ++ tail) (let same : suc (suc j) + (s.counts.fast - 1) ≡ 1 + count + (s.counts.fast - 1) = omega (arith, counted 0 (omega arith)) in same) in
        subst (λ (ns : List Note). Leads (run R (lines_of Fast a ++ more) w) ns (run R more) (λ v. IsBetween R s hears v (before ++ entry_after before a ∷ []))) all_quiet
        (joined _ (Quiet ∷ []) (Quiet ∷ replicate j Quiet ++ (replicate (s.counts.fast - 1) Quiet ++ tail)) (flow R a.flow (run R more)) (run R more) IsAsked _
        (one_event _ Quiet (flow R a.flow (run R more)) IsAsked (asked_next w between))
        (λ v asked. flow_serves asked.primary.is.used asked.primary.is.spent enough few v asked refl a.flow (run R more) calm.flow))
