-- Whatever event is next in a good world, no correct replica refuses it for a cause that blames anyone, but where a frame tells another snapshot.
use Rattle.std.proofs.Common.{◌≡◌, inl, inr, ℕ, Bool, true, false, ◌&&◌, ◌++◌, List, [], Option, Some, None, Ok, Err, refl, sym, ap, ◌∙◌, subst}
use Rattle.std.specs.Prelude.{Result, if◌then◌else◌, nat_lt, option_map, slice_get, unwrap_or}
use Rattle.std.specs.List.{AllByRecursion}
use Rattle.std.specs.Option.{option_and_then}
use Rattle.zy_base.specs.Machine.{Rules}
use Rattle.zy_base.specs.declared.cause.Cause.{Cause}
use Rattle.zy_base.specs.declared.cause.Cause.TheVariants as causes
use Rattle.zy_base.specs.declared.frame_fault.FrameFault.{FrameFault}
use Rattle.zy_base.specs.declared.frame_fault.FrameFault.TheVariants as faults
use Rattle.zy_base.specs.declared.ids.ClientId.{ClientId}
use Rattle.zy_base.specs.declared.ids.Digest.{Digest}
use Rattle.zy_base.specs.declared.ids.Party.{Party}
use Rattle.zy_base.specs.declared.ids.Party.TheVariants as parties
use Rattle.zy_base.specs.declared.ids.ReplicaId.{ReplicaId}
use Rattle.zy_base.specs.declared.step.Answer.{Answer}
use Rattle.zy_base.specs.declared.step.Answer.TheVariants.{Held, Refused, Taken}
use Rattle.zy_base.specs.declared.step.Event.{Event}
use Rattle.zy_base.specs.declared.step.Event.TheVariants.{Heard, Timer}
use Rattle.zy_base.specs.declared.step.TimerKind.{TimerKind}
use Rattle.zy_base.specs.declared.step.TimerKind.TheVariants as timers
use Rattle.zy_frames.specs.Frames as plain
use Rattle.zy_frames.specs.declared.frame.Frame.{Frame}
use Rattle.zy_law_normal.proofs.Goes.{all_of_front}
use Rattle.zy_law_normal.proofs.Own.{by_test}
use Rattle.zy_parts.specs.declared.signed.Part.{Part}
use Rattle.zy_seal.specs.Screening.{answer_to, is_bad, is_unknown, screen}
use Rattle.std.specs.List.{list_any}
use Rattle.zy_table.specs.ClientRows.{ask, client_step}
use Rattle.zy_table.specs.ClientState.{ClientOutcome, client_outgoing}
use Rattle.zy_table.specs.Deeds.{Outcome, outgoing_of}
use Rattle.zy_table.specs.Roles.{in_role}
use Rattle.zy_table.specs.State.{State}
use Rattle.zy_table.specs.Whole.{decoded_as, hear_plain, hear_view, is_view_frame_in_role, unless, view_decoded, whole_step}
use Rattle.zy_table.specs.declared.client.Done.{Done}
use Rattle.zy_table.specs.declared.deeds.AnyFrame.{AnyFrame}
use Rattle.zy_table.specs.declared.deeds.AnyFrame.TheVariants.{Plain, View}
use Rattle.zy_vframes.specs.Parts.{parts_of}
use Rattle.zy_vframes.specs.ViewFrames as views
use Rattle.zy_vframes.specs.declared.frame.ViewFrame.{ViewFrame}
use Rattle.zy_world_law.specs.Blame.{IsBlameless, IsOfFrame, IsOfSnapshot, frame_brought}
use Rattle.zy_world_law.specs.Events.{Broken, Happened, ask_in, bring, bring_to_client, bring_to_replica, client_goes, client_note, client_stepped, client_timer, client_timer_in, completed_by, deliver, forge, go_with, happens, history_of, signatures_in, lie, replica_goes, replica_note, replica_timer, replica_timer_in, stepped, timer_of, unless_forged, with_client, with_done, with_replica}
use Rattle.zy_world_law.specs.Events.Happened.{Breaks, Goes}
use Rattle.zy_world_law.specs.Good.{IsGood, IsKept}
use Rattle.zy_world_law.specs.Honest.{forger_in}
use Rattle.zy_world_law.specs.Liars.{Telling, by_replica, if_short, order_told, requests_at, spec_told, statement_told}
use Rattle.zy_world_law.specs.Reading.{any_frame_in, either_read, view_read}
use Rattle.zy_world_law.specs.Seen.{seen}
use Rattle.zy_world_law.specs.Texts.{keep_all, step_texts, texts_in, texts_of}
use Rattle.zy_world_law.specs.World.{Client, Mail, Replica, Texts, World, are_parties, correct_in, delivered, is_correct, is_liar, mail_at, replica_at, with_sent}
use Rattle.zy_world_law.specs.declared.event.WorldEvent.{WorldEvent}
use Rattle.zy_world_law.specs.declared.event.WorldEvent.TheVariants as events
use Rattle.zy_world_law.specs.declared.note.Note.{Note}
use Rattle.zy_world_law.specs.declared.note.Note.TheVariants as notes
use Rattle.zy_world_law.proofs.BagStays.{bag_good}
use Rattle.zy_world_law.proofs.Blameless.{plain_just, timer_just, view_just_row}
use Rattle.zy_world_law.proofs.DecodedReports.{decoded_read}
use Rattle.zy_world_law.proofs.EventHeld.{verified}
use Rattle.zy_world_law.proofs.HonestReports.{frame_honest}
use Rattle.zy_law_views.proofs.IdleFrames.{of_clients_or_idle}
use Rattle.zy_world_law.proofs.KeptTexts.{all_kept}
use Rattle.zy_world_law.proofs.NoConflict.{no_conflict}
use Rattle.zy_world_law.proofs.NotForged.{parts_said}
use Rattle.zy_world_law.proofs.RowCauses.{IsFree, Just, NoExcuse, free}
use Rattle.zy_world_law.proofs.StepLaws.{StepLaws}
use Rattle.zy_world_law.proofs.TextsStay.{texts_good}

-- ---- what is heard

module _ {S : Type 0} (R : Rules S) (laws : StepLaws R) (w : World S) (good : IsGood R w) (id : ℕ) (x : Replica S) (at : replica_at w id ≡ Some x) where
  abbrev s : State S
  s = x.state

  screen_just : (Excuse : Cause → Type 0) (parts : List Part) (o : Outcome S) → (screen s.keys parts ≡ None → Just R s Excuse o) → Just R s Excuse (unless (screen s.keys parts) s o)
  screen_just Excuse parts o just = by (list_any (λ (part : Part). is_unknown (answer_to s.keys part)) parts) (list_any (λ (part : Part). is_bad (answer_to s.keys part)) parts) just
    where
      by : (unknown bad : Bool) → ((if unknown then Some causes.UnknownParty else (if bad then Some causes.BadSignature else None)) ≡ None → Just R s Excuse o)
          → Just R s Excuse (unless (if unknown then Some causes.UnknownParty else (if bad then Some causes.BadSignature else None)) s o)
      by true bad just = free R s Excuse causes.UnknownParty refl
      by false true just = free R s Excuse causes.BadSignature refl
      by false false just = just refl

  plain_heard : (frame : Frame) → Just R s (IsOfSnapshot R s (Plain frame)) (unless (screen s.keys (plain.parts_of frame)) s (hear_plain R s frame))
  plain_heard frame =
      let Excuse : Cause → Type 0 = IsOfSnapshot R s (Plain frame) in
      let tie = good.tied id x at in
      screen_just Excuse (plain.parts_of frame) (hear_plain R s frame)
      (λ clear. by_test (λ (o : Outcome S). Just R s Excuse o) (in_role s frame) _ _ (λ role. plain_just R laws w.setup.interval w.texts (seen R w) id s (history_of x.past) tie.ready good.kept frame)
      (λ wrong. free R s Excuse causes.WrongRole refl))

  module _ (bytes : List ℕ) (none : forger_in w bytes ≡ None) (kept : AllByRecursion (IsKept w.texts) (texts_in bytes)) where
    abbrev excused_in : Option AnyFrame → Cause → Type 0
    excused_in o cause = IsOfFrame R (Some x) o cause

    view_heard : (frame : ViewFrame) → views.frame_in bytes ≡ Ok frame → any_frame_in bytes ≡ Some (View frame) → Just R s (IsOfSnapshot R s (View frame)) (unless (screen s.keys (parts_of frame)) s (hear_view R s frame))
    view_heard frame is spells =
        let Excuse : Cause → Type 0 = IsOfSnapshot R s (View frame) in
        let tie = good.tied id x at in
        screen_just Excuse (parts_of frame) (hear_view R s frame)
        (λ clear. by_test (λ (o : Outcome S). Just R s Excuse o) (is_view_frame_in_role s.counts frame) _ _ (λ role. elim (of_clients_or_idle R s frame) [
          | inl clients ↦
              view_just_row R laws w.setup.interval w.texts (seen R w) id s (history_of x.past) tie.ready good.kept frame clients
              (frame_honest R w s.counts frame (decoded_read bytes frame is) clients role (verified R w good s tie.keys bytes none (parts_of frame) clear) (parts_said w bytes (View frame) none spells)
              (subst (λ (o : Option AnyFrame). AllByRecursion (IsKept w.texts) (unwrap_or (option_map texts_of o) [])) spells kept))
          | inr idle ↦ λ cause refuses. inl (idle.blameless cause refuses)
        ]) (λ wrong. free R s Excuse causes.WrongRole refl))

    view_read_just : (read : Result ViewFrame FrameFault) → views.frame_in bytes ≡ read → any_frame_in bytes ≡ view_read read → Just R s (excused_in (view_read read)) (view_decoded R s read)
    view_read_just (Err fault) is spells = free R s (excused_in None) (causes.NotFrame fault) refl
    view_read_just (Ok frame) is spells = view_heard frame is spells

    read_just : (read : Result Frame FrameFault) → plain.frame_in bytes ≡ read → Just R s (excused_in (either_read bytes read)) (decoded_as R s bytes read)
    read_just (Ok frame) is = plain_heard frame
    read_just (Err faults.Kind) is = view_read_just (views.frame_in bytes) refl (ap (λ (r : Result Frame FrameFault). either_read bytes r) is)
    read_just (Err faults.Short) is = free R s (excused_in None) (causes.NotFrame faults.Short) refl
    read_just (Err faults.Version) is = free R s (excused_in None) (causes.NotFrame faults.Version) refl
    read_just (Err faults.TooLong) is = free R s (excused_in None) (causes.NotFrame faults.TooLong) refl
    read_just (Err faults.Trailing) is = free R s (excused_in None) (causes.NotFrame faults.Trailing) refl
    read_just (Err faults.Range) is = free R s (excused_in None) (causes.NotFrame faults.Range) refl

    pub heard_just : Just R s (excused_in (any_frame_in bytes)) (whole_step R s (Heard bytes))
    unfolding whole_step
    heard_just = read_just (plain.frame_in bytes) refl

  pub rings_just : (kind : TimerKind) → Just R s NoExcuse (whole_step R s (Timer kind))
  rings_just kind = let tie = good.tied id x at in timer_just R laws w.setup.interval w.texts (seen R w) id s (history_of x.past) tie.ready good.kept kind

-- ---- what is told of events

-- whatever is told of a correct replica that refuses it
abbrev TellsJust : {S : Type 0} → (ReplicaId → Cause → Type 0) → Happened S → Type 0
TellsJust {S} Excuse h = (v : World S) (id : ReplicaId) (cause : Cause) → h ≡ Goes v (notes.Refused (Some (parties.Replica id)) cause) → IsFree (Excuse id) cause

-- no frame is heard
abbrev NoFrame : ReplicaId → Cause → Type 0
NoFrame id cause = NoExcuse cause

-- no replica is told of
abbrev OfNoReplica : Note → Type 0
OfNoReplica note = (id : ReplicaId) (cause : Cause) → note ≡ notes.Refused (Some (parties.Replica id)) cause → ⊥

-- a client's answer
client_silent : (id : ClientId) (done : Option Done) (answer : Answer) → OfNoReplica (client_note id done answer)
client_silent id (Some done) answer other cause is = absurd cc
client_silent id None Taken other cause is = absurd cc
client_silent id None Held other cause is = absurd cc
client_silent id None (Refused why) other cause is = absurd cc

-- a replica's
answer_of_note : (id other : ReplicaId) (answer : Answer) (cause : Cause) → replica_note id answer ≡ notes.Refused (Some (parties.Replica other)) cause → answer ≡ Refused cause
answer_of_note id other Taken cause is = absurd cc
answer_of_note id other Held cause is = absurd cc
answer_of_note id other (Refused why) cause is = cc

named_by : (id other : ReplicaId) (answer : Answer) (cause : Cause) → replica_note id answer ≡ notes.Refused (Some (parties.Replica other)) cause → id ≡ other
named_by id other Taken cause is = absurd cc
named_by id other Held cause is = absurd cc
named_by id other (Refused why) cause is = cc

module _ {S : Type 0} where
  note_is : (v u : World S) (n m : Note) → Goes v n ≡ Goes u m → n ≡ m
  note_is v u n m is = cc

  silent : (Excuse : ReplicaId → Cause → Type 0) (w : World S) (note : Note) → OfNoReplica note → TellsJust Excuse (Goes w note)
  silent Excuse w note none v id cause is = absurd (none id cause (note_is w v note _ is))

  quiet : (Excuse : ReplicaId → Cause → Type 0) (w : World S) → TellsJust Excuse (Goes w notes.Quiet)
  quiet Excuse w = silent Excuse w notes.Quiet (λ id cause is. absurd cc)

  unnamed : (Excuse : ReplicaId → Cause → Type 0) (w : World S) (cause : Cause) → TellsJust Excuse (Goes w (notes.Refused None cause))
  unnamed Excuse w cause = silent Excuse w (notes.Refused None cause) (λ id other is. absurd cc)

  breaks : (Excuse : ReplicaId → Cause → Type 0) (h : Happened S) (broken : Broken) → h ≡ Breaks broken → TellsJust Excuse h
  breaks Excuse h broken is v id cause goes = let both = sym is ∙ goes in absurd cc

  tested : (Excuse : ReplicaId → Cause → Type 0) (b : Bool) (x y : Happened S) → TellsJust Excuse x → TellsJust Excuse y → TellsJust Excuse (if b then x else y)
  tested Excuse b x y one other = by_test (TellsJust Excuse) b x y (λ is. one) (λ is. other)

  goes_silent : (Excuse : ReplicaId → Cause → Type 0) (w : World S) (change : World S → World S) (note : Note) (texts : Result Texts Digest) → OfNoReplica note → TellsJust Excuse (go_with w change note texts)
  goes_silent Excuse w change note (Err d) none = breaks Excuse (Breaks _) _ refl
  goes_silent Excuse w change note (Ok texts) none = silent Excuse _ note none

  client_just : (Excuse : ReplicaId → Cause → Type 0) (w : World S) (id : ClientId) (x : Client) (texts : List (List ℕ)) (o : ClientOutcome) → TellsJust Excuse (client_goes w id x texts o)
  client_just Excuse w id x texts o =
      goes_silent Excuse w (λ v. with_done (with_sent (with_client v id (client_stepped x o)) (client_outgoing o.state.counts.n o.sent)) id (completed_by x.state o.state)) (client_note id (completed_by x.state o.state) o.answer) (keep_all texts w.texts) (client_silent id (completed_by x.state o.state) o.answer)

module _ {S : Type 0} (R : Rules S) (laws : StepLaws R) where
  replica_just : (Excuse : ReplicaId → Cause → Type 0) (w : World S) → IsGood R w → (id : ReplicaId) (x : Replica S) (texts : List (List ℕ)) (event : Event)
      → ((more : Texts) → AllByRecursion (IsKept more) texts → IsGood R (record w { texts = more }) → Just R x.state (Excuse id) (whole_step R x.state event)) → TellsJust Excuse (replica_goes w id x texts event (whole_step R x.state event))
  replica_just Excuse w good id x texts event just = by (keep_all (texts ++ step_texts o.deeds.acts) w.texts) refl
    where
      o : Outcome S
      o = whole_step R x.state event

      by : (r : Result Texts Digest) → keep_all (texts ++ step_texts o.deeds.acts) w.texts ≡ r
          → TellsJust Excuse (go_with w (λ v. with_sent (with_replica v id (stepped v.texts event x o)) (outgoing_of o.state.me.0 o.state.counts.n o.deeds.sent)) (replica_note id o.answer) r)
      by (Err d) is = breaks Excuse (Breaks _) _ refl
      by (Ok more) is = λ v other cause goes.
          let keeping = all_kept (texts ++ step_texts o.deeds.acts) w.texts more is in
          let note = note_is _ v (replica_note id o.answer) _ goes in
          subst (λ (q : ReplicaId). IsFree (Excuse q) cause) (named_by id other o.answer cause note)
          (just more (all_of_front (IsKept more) texts (step_texts o.deeds.acts) keeping.kept) (texts_good R w more keeping.stay good) cause
          (answer_of_note id other o.answer cause note))

  module _ (w : World S) (good : IsGood R w) where
    -- ---- a frame: the world may have marked it

    abbrev ByFrame : Option AnyFrame → ReplicaId → Cause → Type 0
    ByFrame frame id cause = IsOfFrame R (replica_at w id.0) frame cause

    hears : (bag : List Mail) (id : ReplicaId) (x : Replica S) → replica_at w id.0 ≡ Some x → (bytes : List ℕ) (forger : Option Party) → forger_in w bytes ≡ forger
        → TellsJust (ByFrame (any_frame_in bytes)) (unless_forged forger (replica_goes (record w { bag = bag }) id x (texts_in bytes) (Heard bytes) (whole_step R x.state (Heard bytes))))
    hears bag id x seat bytes None none =
        replica_just (ByFrame (any_frame_in bytes)) (record w { bag = bag }) (bag_good R w w.used bag w.muted good) id x (texts_in bytes) (Heard bytes)
        (λ more kept good1.
        subst (λ (o : Option (Replica S)). Just R x.state (λ (cause : Cause). IsOfFrame R o (any_frame_in bytes) cause) (whole_step R x.state (Heard bytes))) (sym seat)
        (heard_just R laws (record w { bag = bag; texts = more }) good1 id.0 x seat bytes none kept))
    hears bag id x seat bytes (Some party) forged = breaks (ByFrame (any_frame_in bytes)) (Breaks _) _ refl

    to_replica : (bag : List Mail) (id : ReplicaId) (bytes : List ℕ) (o : Option (Option (Replica S))) → slice_get w.replicas id.0 ≡ o
        → TellsJust (ByFrame (any_frame_in bytes)) (bring_to_replica R w (record w { bag = bag }) id bytes o)
    to_replica bag id bytes None at = unnamed (ByFrame (any_frame_in bytes)) w causes.NoSubject
    to_replica bag id bytes (Some None) at = quiet (ByFrame (any_frame_in bytes)) _
    to_replica bag id bytes (Some (Some x)) at =
        hears bag id x (ap (λ (o : Option (Option (Replica S))). correct_in o) at) bytes (forger_in w bytes) refl

    to_client : (Excuse : ReplicaId → Cause → Type 0) (bag : List Mail) (id : ClientId) (bytes : List ℕ) (o : Option (Option Client)) → TellsJust Excuse (bring_to_client w (record w { bag = bag }) id bytes o)
    to_client Excuse bag id bytes None = unnamed Excuse w causes.NoSubject
    to_client Excuse bag id bytes (Some None) = quiet Excuse _
    to_client Excuse bag id bytes (Some (Some x)) = by (forger_in w bytes)
      where
        by : (forger : Option Party) → TellsJust Excuse (unless_forged forger (client_goes (record w { bag = bag }) id x (texts_in bytes) (client_step x.state (Heard bytes))))
        by None = client_just Excuse (record w { bag = bag }) id x (texts_in bytes) (client_step x.state (Heard bytes))
        by (Some party) = breaks Excuse (Breaks _) _ refl

    brings : (bag : List Mail) (to : Party) (bytes : List ℕ) → TellsJust (ByFrame (any_frame_in bytes)) (bring R w (record w { bag = bag }) to bytes)
    brings bag (parties.Replica id) bytes = to_replica bag id bytes (slice_get w.replicas id.0) refl
    brings bag (parties.Client id) bytes = to_client (ByFrame (any_frame_in bytes)) bag id bytes (slice_get w.clients id.0)

    delivers : (number : ℕ) (to : Option Party) (mail : Option Mail) → TellsJust (ByFrame (option_and_then (λ (m : Mail). any_frame_in m.bytes) mail)) (deliver R w number to mail)
    delivers number to None = unnamed (ByFrame None) w causes.NoSubject
    delivers number to (Some mail) = brings (delivered w number mail).bag (unwrap_or to mail.to) mail.bytes

    -- what holds without a frame holds by any excuse
    anyway : (Excuse : ReplicaId → Cause → Type 0) (h : Happened S) → TellsJust NoFrame h → TellsJust Excuse h
    anyway Excuse h just v id cause goes = elim (just v id cause goes) [
      | inl blameless ↦ inl blameless
      | inr never ↦ absurd never
    ]

    -- ---- timers

    replica_rings : (id : ReplicaId) (x : Replica S) → replica_at w id.0 ≡ Some x → (kind : TimerKind) → TellsJust NoFrame (replica_timer R w id x kind)
    replica_rings id x seat timers.Request = replica_just NoFrame w good id x [] (Timer timers.Request) (λ more kept good1. rings_just R laws (record w { texts = more }) good1 id.0 x seat timers.Request)
    replica_rings id x seat timers.Change = replica_just NoFrame w good id x [] (Timer timers.Change) (λ more kept good1. rings_just R laws (record w { texts = more }) good1 id.0 x seat timers.Change)
    replica_rings id x seat timers.Answer = unnamed NoFrame w causes.NoSubject

    replica_rings_in : (id : ReplicaId) (kind : TimerKind) (o : Option (Option (Replica S))) → slice_get w.replicas id.0 ≡ o → TellsJust NoFrame (replica_timer_in R w id kind o)
    replica_rings_in id kind None at = unnamed NoFrame w causes.NoSubject
    replica_rings_in id kind (Some None) at = unnamed NoFrame w causes.NoSubject
    replica_rings_in id kind (Some (Some x)) at = replica_rings id x (ap (λ (o : Option (Option (Replica S))). correct_in o) at) kind

    client_rings : (id : ClientId) (x : Client) (kind : TimerKind) → TellsJust NoFrame (client_timer w id x kind)
    client_rings id x timers.Answer = client_just NoFrame w id x [] (client_step x.state (Timer timers.Answer))
    client_rings id x timers.Request = unnamed NoFrame w causes.NoSubject
    client_rings id x timers.Change = unnamed NoFrame w causes.NoSubject

    client_rings_in : (id : ClientId) (kind : TimerKind) (o : Option (Option Client)) → TellsJust NoFrame (client_timer_in w id kind o)
    client_rings_in id kind None = unnamed NoFrame w causes.NoSubject
    client_rings_in id kind (Some None) = unnamed NoFrame w causes.NoSubject
    client_rings_in id kind (Some (Some x)) = client_rings id x kind

    rings : (party : Party) (kind : TimerKind) → TellsJust NoFrame (timer_of R w party kind)
    rings (parties.Replica id) kind = replica_rings_in id kind (slice_get w.replicas id.0) refl
    rings (parties.Client id) kind = client_rings_in id kind (slice_get w.clients id.0)

    -- ---- requests and lies

    asks : (id : ClientId) (op : List ℕ) (o : Option (Option Client)) → TellsJust NoFrame (ask_in w id op o)
    asks id op None = unnamed NoFrame w causes.NoSubject
    asks id op (Some None) = unnamed NoFrame w causes.NoSubject
    asks id op (Some (Some x)) = client_just NoFrame w id x [] (ask x.state op)

    lies : (liar : Party) (to : List Party) (telling : Option Telling) → TellsJust NoFrame (lie w liar to telling)
    lies liar to None = unnamed NoFrame w causes.NoSubject
    lies liar to (Some telling) =
        tested NoFrame (is_liar w liar && are_parties w to) _ _ (tested NoFrame (nat_lt (w.used liar) (signatures_in w)) _ _ (quiet NoFrame _) (unnamed NoFrame w causes.KeySpent)) (unnamed NoFrame w causes.NoSubject)

    forges : (party : Party) (to : List Party) (telling : Option Telling) → TellsJust NoFrame (forge w party to telling)
    forges party to None = unnamed NoFrame w causes.NoSubject
    forges party to (Some telling) = tested NoFrame (is_correct w party && are_parties w to) _ _ (quiet NoFrame _) (unnamed NoFrame w causes.NoSubject)

    event_just : (event : WorldEvent) → TellsJust (ByFrame (frame_brought w event)) (happens R w event)
    unfolding happens
    event_just (events.Ask client op) = anyway (ByFrame None) _ (asks client op (slice_get w.clients client.0))
    event_just (events.Deliver number to) = delivers number to (mail_at w number)
    event_just (events.Timer party kind) = anyway (ByFrame None) _ (rings party kind)
    event_just (events.Order liar view asks to) = anyway (ByFrame None) _ (lies liar to (by_replica liar (option_and_then (order_told view) (requests_at w asks))))
    event_just (events.Spec liar view asks to reply) = anyway (ByFrame None) _ (lies liar to (by_replica liar (option_and_then (spec_told view reply) (requests_at w asks))))
    event_just (events.Statement liar bytes to) = anyway (ByFrame None) _ (lies liar to (if_short w.setup liar (statement_told bytes)))
    event_just (events.Raw bytes to) = anyway (ByFrame None) _ (tested NoFrame (are_parties w to) _ _ (quiet NoFrame _) (unnamed NoFrame w causes.NoSubject))
    event_just (events.Forge party bytes to) = anyway (ByFrame None) _ (forges party to (if_short w.setup party (statement_told bytes)))

    pub blameless : IsBlameless R w
    blameless = record { orders = no_conflict R w good; refusals = event_just }
