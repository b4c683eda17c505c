-- Each honest event keeps a good world good.
use Rattle.zy_table.specs.Whole.{whole_step}
use Rattle.std.proofs.Common.{append-nil, ◌≡◌, inl, ℕ, ◌%◌, nat_eq, Bool, true, false, ◌&&◌, List, [], ◌∷◌, Option, Some, None, Result, Ok, refl, sym, ap, ◌∙◌, subst}
use Rattle.std.specs.Prelude.{IfSome, if◌then◌else◌, slice_get, option_map, unwrap_or, nat_lt}
use Rattle.std.specs.List.{AllByRecursion}
use Rattle.std.specs.Option.{option_and_then}
use Rattle.std.proofs.lemmas.Bool.{eqb-true}
use Rattle.std.proofs.lemmas.Nat.{from_be_bytes-to_be_bytes_4}
use Rattle.zy_base.specs.Machine.{Rules}
use Rattle.zy_base.specs.declared.counts.Counts.{Counts}
use Rattle.zy_base.specs.declared.frame_fault.FrameFault.{FrameFault}
use Rattle.zy_base.specs.declared.ids.ClientId.{ClientId}
use Rattle.zy_base.specs.declared.ids.Party.{Party}
use Rattle.zy_base.specs.declared.ids.Party.TheVariants as parties
use Rattle.zy_base.specs.declared.ids.ReplicaId.{ReplicaId}
use Rattle.zy_base.specs.declared.step.Event.TheVariants.{Heard, Timer}
use Rattle.zy_base.specs.declared.step.TimerKind.{TimerKind}
use Rattle.zy_base.specs.declared.step.TimerKind.TheVariants as timers
use Rattle.zy_frames.specs.Frames.{frame_in, part_of_optional}
use Rattle.zy_frames.specs.declared.frame.Frame.{Frame}
use Rattle.zy_frames.specs.declared.frame.Frame.TheVariants as frames
use Rattle.zy_parts.specs.Numbers as numbers
use Rattle.zy_parts.specs.Signing.{part_of, text_of}
use Rattle.zy_parts.specs.Statements.{order_fields, spec_fields}
use Rattle.zy_parts.specs.declared.signed.Signed.{Signed}
use Rattle.zy_parts.specs.declared.statements.Order.{Order}
use Rattle.zy_seal.specs.Keys.{Keys}
use Rattle.zy_seal.specs.Screening.{answer_to}
use Rattle.zy_seal.specs.declared.directory.SealAnswer.TheVariants as answers
use Rattle.zy_table.specs.ClientRows.{ask, client_step, is_by_primary}
use Rattle.zy_table.specs.ClientState.{ClientState}
use Rattle.zy_table.specs.Roles.{is_primary_of}
use Rattle.zy_table.specs.declared.client.Response.{Response}
use Rattle.zy_table.specs.declared.deeds.AnyFrame.{AnyFrame}
use Rattle.zy_table.specs.declared.deeds.AnyFrame.TheVariants.{Plain}
use Rattle.zy_world_law.specs.Events.{Happened, Broken, unless_forged, ask_in, deliver, bring, bring_to_replica, bring_to_client, timer_of, replica_timer_in, client_timer_in, replica_timer, client_timer, lie, forge, happens, replica_goes, client_goes, signatures_in}
use Rattle.zy_world_law.specs.Events.Happened.{Goes, Breaks}
use Rattle.zy_world_law.specs.Good.{IsGood, IsBackedBy, IsKept, IsOrderBacked}
use Rattle.zy_world_law.specs.Honest.{forger_in}
use Rattle.zy_world_law.specs.Liars.{Telling, requests_at, order_told, spec_told, by_replica, statement_told, if_short}
use Rattle.zy_world_law.specs.Setup.{keys_of}
use Rattle.zy_world_law.specs.Reading.{any_frame_in, either_read}
use Rattle.zy_world_law.specs.Texts.{texts_in, texts_of}
use Rattle.zy_world_law.specs.World.{World, Replica, Client, Mail, replica_at, client_at, correct_in, mail_at, delivered, texts_said, is_liar, is_correct, are_parties}
use Rattle.zy_world_law.specs.declared.event.WorldEvent.{WorldEvent}
use Rattle.zy_world_law.specs.declared.event.WorldEvent.TheVariants as events
use Rattle.zy_world_law.specs.declared.note.Note.{Note}
use Rattle.zy_world_law.specs.declared.note.Note.TheVariants as notes
use Rattle.zy_world_law.proofs.BagStays.{bag_good}
use Rattle.zy_world_law.proofs.ClientEvent.{client_event, heard_vouched}
use Rattle.zy_world_law.proofs.DecodedInRange.{decoded_readable}
use Rattle.zy_world_law.proofs.HonestEvents.{honest_or_idle, timer_honest}
use Rattle.zy_world_law.proofs.Goings.{IsAfter, goes_is, replica_goes_good, client_goes_good}
use Rattle.zy_world_law.proofs.HeldLaw.{HeldLaw}
use Rattle.zy_world_law.proofs.KeptOrHeard.{IsHeard, IsAsked, Nothing, heard_comes, timer_comes, ask_comes}
use Rattle.zy_world_law.proofs.NotForged.{IsSaid, WasSaid, parts_said}
use Rattle.zy_world_law.proofs.Screened.{Verifies}
use Rattle.zy_world_law.proofs.StepLaws.{StepLaws}
use Rattle.zy_world_law.proofs.Vouched.{verified_said}

module _ {S : Type 0} (R : Rules S) (law : HeldLaw) (steps : StepLaws R) where
  -- a world that an event led to is good
  abbrev pub GoesGood : World S → Happened S → Type 0
  GoesGood w h = (v : World S) (note : Note) → h ≡ Goes v note → IsAfter R w v

  stays_as : (w u : World S) (note : Note) → IsAfter R w u → GoesGood w (Goes u note)
  stays_as w u n after v note is = subst (λ (u : World S). IsAfter R w u) (goes_is u v n note is) after

  pub after_itself : (w : World S) → IsGood R w → IsAfter R w w
  after_itself w good = record { good = good; texts = λ d text was. was; more = []; done = sym (append-nil w.done) }

  stays : (w : World S) (note : Note) → IsGood R w → GoesGood w (Goes w note)
  stays w n good = stays_as w w n (after_itself w good)

  breaks : (w : World S) (broken : Broken) → GoesGood w (Breaks broken)
  breaks w broken v note is = absurd cc

  by_test : (w : World S) (b : Bool) (x y : Happened S) → GoesGood w x → GoesGood w y → GoesGood w (if b then x else y)
  by_test w true x y one other = one
  by_test w false x y one other = other

  -- ---- what a client hears

  spells : (bytes : List ℕ) (frame : Frame) → frame_in bytes ≡ Ok frame → any_frame_in bytes ≡ Some (Plain frame)
  spells bytes frame is = ap (λ (r : Result Frame FrameFault). either_read bytes r) is

  module _ (w : World S) where
    -- an order beside a response, of which each part that verifies was said
    order_backed : (s : ClientState) → s.keys ≡ keys_of w.setup → s.counts ≡ w.setup.counts → (o : Option (Signed Order)) → is_by_primary s o ≡ true → AllByRecursion (Verifies s.keys) (part_of_optional o)
        → AllByRecursion (WasSaid w) (part_of_optional o) → IfSome o (IsOrderBacked w)
    order_backed s keys counts None primary signed said = tt
    order_backed s keys counts (Some order) primary signed said = by order.by refl
      where
        under : answer_to (keys_of w.setup) (part_of numbers.order order_fields order) ≡ answers.Yes
        under = subst (λ (k : Keys). answer_to k (part_of numbers.order order_fields order) ≡ answers.Yes) keys signed.0

        by : (p : Party) → order.by ≡ p → IsOrderBacked w order
        by (parties.Replica id) is =
            let text : List ℕ = text_of numbers.order order_fields (parties.Replica id) order.stmt in
            let own : answer_to (keys_of w.setup) (record { by = parties.Replica id; text = text; sig = order.sig }) ≡ answers.Yes =
            subst (λ (p : Party). answer_to (keys_of w.setup) (record { by = p; text = text_of numbers.order order_fields p order.stmt; sig = order.sig }) ≡ answers.Yes) is under in
            let was : IsSaid (texts_said w (parties.Replica id)) text =
            subst (λ (p : Party). IsSaid (texts_said w p) (text_of numbers.order order_fields p order.stmt)) is (said.0 under) in
            let first : nat_eq (order.stmt.view.0 % s.counts.n) id.0 ≡ true = ap (is_primary_of s.counts order.stmt.view.0) (sym is) ∙ primary in
            record {
              signer = id;
              by = is;
              leads = ap (λ (n : Counts). order.stmt.view.0 % n.n) (sym counts) ∙ eqb-true (order.stmt.view.0 % s.counts.n) id.0 first;
              said = (verified_said w id.0 text order.sig own was).1;
            }
        by (parties.Client id) is = let never : false ≡ true = ap (is_primary_of s.counts order.stmt.view.0) (sym is) ∙ primary in absurd cc

    heard_backed : (s : ClientState) → s.keys ≡ keys_of w.setup → s.counts ≡ w.setup.counts → (bytes : List ℕ) → forger_in w bytes ≡ None → AllByRecursion (IsKept w.texts) (texts_in bytes)
        → (number : ℕ) (r : Response) → IsHeard s bytes number r → IsBackedBy w number r
    heard_backed s keys counts bytes none kept number r heard =
        let frame : Frame = frames.SpecResponse r.spec r.reply r.order in
        let signed : answer_to (keys_of w.setup) (part_of numbers.spec spec_fields r.spec) ≡ answers.Yes =
        subst (λ (k : Keys). answer_to k (part_of numbers.spec spec_fields r.spec) ≡ answers.Yes) keys heard.signed in
        let text : List ℕ = text_of numbers.spec spec_fields (parties.Replica (record { 0 = number })) r.spec.stmt in
        let own : answer_to (keys_of w.setup) (record { by = parties.Replica (record { 0 = number }); text = text; sig = r.spec.sig }) ≡ answers.Yes =
        subst (λ (by : Party). answer_to (keys_of w.setup) (record { by = by; text = text_of numbers.spec spec_fields by r.spec.stmt; sig = r.spec.sig }) ≡ answers.Yes) heard.by signed in
        let said : IsSaid (texts_said w (parties.Replica (record { 0 = number }))) text =
        subst (λ (by : Party). IsSaid (texts_said w by) (text_of numbers.spec spec_fields by r.spec.stmt)) heard.by ((parts_said w bytes (Plain frame) none (spells bytes frame heard.frame)).0 signed) in
        let brought : AllByRecursion (IsKept w.texts) (r.reply ∷ []) =
        subst (λ (o : Option AnyFrame). AllByRecursion (IsKept w.texts) (unwrap_or (option_map texts_of o) [])) (spells bytes frame heard.frame) kept in
        let both = verified_said w number text r.spec.sig own said in
        let parts = parts_said w bytes (Plain frame) none (spells bytes frame heard.frame) in
        record {
          within = both.0;
          said = both.1;
          reply = brought.0;
          ordered = order_backed s keys counts r.order heard.primary heard.ordered parts.1;
          spelled = λ small. subst (λ (n : ℕ). spec_fields.Fits (record r.spec.stmt { client = record { 0 = n } })) (from_be_bytes-to_be_bytes_4 r.spec.stmt.client.0 small) (decoded_readable bytes frame heard.frame);
        }

  -- ---- events of correct parties

  module _ (w : World S) (good : IsGood R w) where
    asked_goes : (id : ClientId) (op : List ℕ) (o : Option (Option Client)) → slice_get w.clients id.0 ≡ o → GoesGood w (ask_in w id op o)
    asked_goes id op None at v note is = stays w _ good v note is
    asked_goes id op (Some None) at v note is = stays w _ good v note is
    asked_goes id op (Some (Some x)) at v note is =
        let seat : client_at w id.0 ≡ Some x = ap (λ (o : Option (Option Client)). correct_in o) at in
        let asked : IsAsked x.state (ask x.state op) = ask_comes x.state op in
        client_goes_good R w good id x [] (ask x.state op) v note seat asked.same (law.asks x.state op (good.client_tied id.0 x seat).holds)
        (λ more keeping good1 number r kept. (good1.client_tied id.0 x seat).backed number r (asked.kept number r kept))
        (λ more keeping good1 waiting c waits held. let before = asked.committed waiting c waits held in (good1.client_tied id.0 x seat).committed waiting c before.0 before.1)
        (λ more keeping good1 d ends. let never : None ≡ Some d = sym asked.incomplete ∙ ends in absurd cc) is

    -- a frame: the world may have marked it
    heard_by_client : (u : World S) → IsGood R u → (id : ClientId) (x : Client) → client_at u id.0 ≡ Some x → (bytes : List ℕ) → forger_in u bytes ≡ None
        → GoesGood u (client_goes u id x (texts_in bytes) (client_step x.state (Heard bytes)))
    heard_by_client u fine id x seat bytes none v note is =
        let keys = (fine.client_tied id.0 x seat).keys in
        let counts = (fine.client_tied id.0 x seat).counts in
        client_event R law u fine id x seat (Heard bytes) (texts_in bytes) (IsHeard x.state bytes) (heard_comes x.state bytes)
        (λ more keeping number r heard. heard_backed (record u { texts = more }) x.state keys counts bytes none keeping.kept number r heard)
        (λ more spec vote heard. heard_vouched R (record u { texts = more }) x.state keys bytes none spec vote heard) v note is

    client_hears : (u : World S) → IsGood R u → (id : ClientId) (x : Client) → client_at u id.0 ≡ Some x → (bytes : List ℕ) (forger : Option Party) → forger_in u bytes ≡ forger
        → GoesGood u (unless_forged forger (client_goes u id x (texts_in bytes) (client_step x.state (Heard bytes))))
    client_hears u fine id x seat bytes None none = heard_by_client u fine id x seat bytes none
    client_hears u fine id x seat bytes (Some party) forged = breaks u (Broken.Forged party)

    heard_by_replica : (u : World S) → IsGood R u → (id : ReplicaId) (x : Replica S) → replica_at u id.0 ≡ Some x → (bytes : List ℕ) (forger : Option Party) → forger_in u bytes ≡ forger
        → GoesGood u (unless_forged forger (replica_goes u id x (texts_in bytes) (Heard bytes) (whole_step R x.state (Heard bytes))))
    heard_by_replica u fine id x seat bytes None none v note is =
        replica_goes_good R steps u fine id x (texts_in bytes) (Heard bytes) v note seat
        (λ more kept good1. honest_or_idle R (record u { texts = more }) good1 x.state (fine.tied id.0 x seat).keys bytes none kept) is
    heard_by_replica u fine id x seat bytes (Some party) forged v note is = breaks u (Broken.Forged party) v note is

    -- a marked world is as the world
    from_marked : (bag : List Mail) (h : Happened S) → GoesGood (record w { bag = bag }) h → GoesGood w h
    from_marked bag h goes v note is = let after = goes v note is in record { good = after.good; texts = after.texts; more = after.more; done = after.done }

    marked_good : (bag : List Mail) → IsGood R (record w { bag = bag })
    marked_good bag = bag_good R w w.used bag w.muted good

    marks : (bag : List Mail) → IsAfter R w (record w { bag = bag })
    marks bag = record { good = marked_good bag; texts = λ d text was. was; more = []; done = sym (append-nil w.done) }

    brought_to_replica : (bag : List Mail) (id : ReplicaId) (bytes : List ℕ) (o : Option (Option (Replica S))) → slice_get w.replicas id.0 ≡ o → GoesGood w (bring_to_replica R w (record w { bag = bag }) id bytes o)
    brought_to_replica bag id bytes None at = stays w _ good
    brought_to_replica bag id bytes (Some None) at = stays_as w (record w { bag = bag }) _ (marks bag)
    brought_to_replica bag id bytes (Some (Some x)) at =
        from_marked bag _ (heard_by_replica (record w { bag = bag }) (marked_good bag) id x (ap (λ (o : Option (Option (Replica S))). correct_in o) at) bytes (forger_in w bytes) refl)

    brought_to_client : (bag : List Mail) (id : ClientId) (bytes : List ℕ) (o : Option (Option Client)) → slice_get w.clients id.0 ≡ o → GoesGood w (bring_to_client w (record w { bag = bag }) id bytes o)
    brought_to_client bag id bytes None at = stays w _ good
    brought_to_client bag id bytes (Some None) at = stays_as w (record w { bag = bag }) _ (marks bag)
    brought_to_client bag id bytes (Some (Some x)) at =
        from_marked bag _ (client_hears (record w { bag = bag }) (marked_good bag) id x (ap (λ (o : Option (Option Client)). correct_in o) at) bytes (forger_in w bytes) refl)

    brought : (bag : List Mail) (to : Party) (bytes : List ℕ) → GoesGood w (bring R w (record w { bag = bag }) to bytes)
    brought bag (parties.Replica id) bytes = brought_to_replica bag id bytes (slice_get w.replicas id.0) refl
    brought bag (parties.Client id) bytes = brought_to_client bag id bytes (slice_get w.clients id.0) refl

    delivery : (number : ℕ) (to : Option Party) (mail : Option Mail) → GoesGood w (deliver R w number to mail)
    delivery number to None = stays w _ good
    delivery number to (Some mail) = brought (delivered w number mail).bag (unwrap_or to mail.to) mail.bytes

    -- ---- timers

    replica_rings : (id : ReplicaId) (x : Replica S) → replica_at w id.0 ≡ Some x → (kind : TimerKind) → GoesGood w (replica_timer R w id x kind)
    replica_rings id x seat timers.Request v note is = replica_goes_good R steps w good id x [] (Timer timers.Request) v note seat (λ more kept good1. inl (timer_honest R (record w { texts = more }) x.state timers.Request)) is
    replica_rings id x seat timers.Change v note is = replica_goes_good R steps w good id x [] (Timer timers.Change) v note seat (λ more kept good1. inl (timer_honest R (record w { texts = more }) x.state timers.Change)) is
    replica_rings id x seat timers.Answer v note is = stays w _ good v note is

    client_rings : (id : ClientId) (x : Client) → client_at w id.0 ≡ Some x → (kind : TimerKind) → GoesGood w (client_timer w id x kind)
    client_rings id x seat timers.Answer v note is =
        client_event R law w good id x seat (Timer timers.Answer) [] Nothing (timer_comes x.state timers.Answer) (λ more keeping number r nothing. absurd nothing)
        (λ more spec vote heard. let never = heard.heard in absurd cc) v note is
    client_rings id x seat timers.Request v note is = stays w _ good v note is
    client_rings id x seat timers.Change v note is = stays w _ good v note is

    replica_rings_in : (id : ReplicaId) (kind : TimerKind) (o : Option (Option (Replica S))) → slice_get w.replicas id.0 ≡ o → GoesGood w (replica_timer_in R w id kind o)
    replica_rings_in id kind None at = stays w _ good
    replica_rings_in id kind (Some None) at = stays w _ good
    replica_rings_in id kind (Some (Some x)) at = replica_rings id x (ap (λ (o : Option (Option (Replica S))). correct_in o) at) kind

    client_rings_in : (id : ClientId) (kind : TimerKind) (o : Option (Option Client)) → slice_get w.clients id.0 ≡ o → GoesGood w (client_timer_in w id kind o)
    client_rings_in id kind None at = stays w _ good
    client_rings_in id kind (Some None) at = stays w _ good
    client_rings_in id kind (Some (Some x)) at = client_rings id x (ap (λ (o : Option (Option Client)). correct_in o) at) kind

    rings : (party : Party) (kind : TimerKind) → GoesGood w (timer_of R w party kind)
    rings (parties.Replica id) kind = replica_rings_in id kind (slice_get w.replicas id.0) refl
    rings (parties.Client id) kind = client_rings_in id kind (slice_get w.clients id.0) refl

    -- ---- lies

    sends : (used : Party → ℕ) (bag : List Mail) (note : Note) → GoesGood w (Goes (record w { used = used; bag = bag }) note)
    sends used bag note =
        stays_as w (record w { used = used; bag = bag }) note (record { good = bag_good R w used bag w.muted good; texts = λ d text was. was; more = []; done = sym (append-nil w.done) })

    lies : (liar : Party) (to : List Party) (telling : Option Telling) → GoesGood w (lie w liar to telling)
    lies liar to None = stays w _ good
    lies liar to (Some telling) =
        by_test w (is_liar w liar && are_parties w to) _ _
        (by_test w (nat_lt (w.used liar) (signatures_in w)) _ _ (sends _ _ notes.Quiet) (stays w _ good))
        (stays w _ good)

    forges : (party : Party) (to : List Party) (telling : Option Telling) → GoesGood w (forge w party to telling)
    forges party to None = stays w _ good
    forges party to (Some telling) =
        by_test w (is_correct w party && are_parties w to) _ _ (sends w.used _ notes.Quiet) (stays w _ good)

    pub event_good : (event : WorldEvent) → GoesGood w (happens R w event)
    unfolding happens
    event_good (events.Ask client op) = asked_goes client op (slice_get w.clients client.0) refl
    event_good (events.Deliver number to) = delivery number to (mail_at w number)
    event_good (events.Timer party kind) = rings party kind
    event_good (events.Order liar view asks to) = lies liar to (by_replica liar (option_and_then (order_told view) (requests_at w asks)))
    event_good (events.Spec liar view asks to reply) = lies liar to (by_replica liar (option_and_then (spec_told view reply) (requests_at w asks)))
    event_good (events.Statement liar bytes to) = lies liar to (if_short w.setup liar (statement_told bytes))
    event_good (events.Raw bytes to) = by_test w (are_parties w to) _ _ (sends w.used _ notes.Quiet) (stays w _ good)
    event_good (events.Forge party bytes to) = forges party to (if_short w.setup party (statement_told bytes))
