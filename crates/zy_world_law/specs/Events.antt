-- What an event makes of a world.
use Rattle.std.specs.Prelude.{ℕ, ◌+◌, ◌-◌, nat_lt, ◌&&◌, if◌then◌else◌, List, [], ◌++◌, length, map, slice_get, slice_set, Option, Some, None, option_map, unwrap_or, option_to_list, Result, Ok, Err}
use Rattle.std.specs.Option.{option_and_then}
use Rattle.zy_base.specs.Machine.{Rules}
use Rattle.zy_base.specs.declared.cause.Cause.TheVariants as causes
use Rattle.zy_base.specs.declared.ids.ClientId.{ClientId}
use Rattle.zy_base.specs.declared.ids.Digest.{Digest}
use Rattle.zy_base.specs.declared.ids.Party.{Party}
use Rattle.zy_base.specs.declared.ids.Party.TheVariants as parties
use Rattle.zy_base.specs.declared.ids.ReplicaId.{ReplicaId}
use Rattle.zy_base.specs.declared.step.Answer.{Answer}
use Rattle.zy_base.specs.declared.step.Answer.TheVariants.{Taken, Held, Refused}
use Rattle.zy_base.specs.declared.step.Event.{Event}
use Rattle.zy_base.specs.declared.step.Event.TheVariants.{Heard, Timer}
use Rattle.zy_base.specs.declared.step.Spoken.{Spoken}
use Rattle.zy_base.specs.declared.step.TimerKind.{TimerKind}
use Rattle.zy_base.specs.declared.step.TimerKind.TheVariants as timers
use Rattle.zy_chain.specs.declared.entry.Entry.{Entry}
use Rattle.zy_law.specs.World.{Stand}
use Rattle.zy_law_normal.specs.Acts.{stands_in}
use Rattle.zy_table.specs.ClientRows.{ask, client_step}
use Rattle.zy_table.specs.ClientState.{ClientState, ClientOutcome, client_outgoing, spoken_of, is_waiting}
use Rattle.zy_table.specs.Deeds.{Outcome, outgoing_of, said_from}
use Rattle.zy_law_steps.specs.Whole as whole
use Rattle.zy_table.specs.Sending.{copies, spelling_of}
use Rattle.zy_table.specs.State.{own_view}
use Rattle.zy_table.specs.Whole.{whole_step}
use Rattle.zy_table.specs.declared.client.Done.{Done}
use Rattle.zy_world_law.specs.Honest.{forger_in}
use Rattle.zy_world_law.specs.Liars.{Telling, requests_at, order_told, spec_told, by_replica, statement_told, if_short}
use Rattle.zy_world_law.specs.Setup.{sealer_of}
use Rattle.zy_world_law.specs.Texts.{texts_in, step_texts, keep_all}
use Rattle.zy_world_law.specs.World.{World, Replica, Client, Remark, Mail, Texts, same_party, is_correct, is_liar, are_parties, mail_at, with_sent, delivered}
use Rattle.zy_world_law.specs.declared.event.WorldEvent.{WorldEvent}
use Rattle.zy_world_law.specs.declared.event.WorldEvent.TheVariants as events
use Rattle.zy_world_law.specs.declared.note.Note.{Note}
use Rattle.zy_seal.specs.Sealing.{signatures_by}
use Rattle.zy_world_law.specs.declared.note.Note.TheVariants as notes

-- An event that isn't honest shows a signature of this party that it didn't make, or a digest of two texts.
pub data Broken : Type 0 where
  Forged : Party → Broken
  Clash : Digest → Broken

pub data Happened (S : Type 0) : Type 0 where
  Goes : World S → Note → Happened S
  Breaks : Broken → Happened S

-- an event that has no subject changes nothing
abbrev pub no_subject : {S : Type 0} → World S → Happened S
no_subject w = Goes w (notes.Refused None causes.NoSubject)

-- ---- the step of a correct replica

abbrev pub history_of : List Stand → List Entry
history_of past = unwrap_or (option_map (λ stand. stand.history) (slice_get past (length past - 1))) []

-- said when so many stands had been added to the earlier ones
abbrev pub remark_after : List Stand → Spoken → Remark
remark_after past spoken = record { text = spoken.text; when = length past - 1 + spoken.pairs }

-- Where a snapshot is installed, it goes on from the list that the kept texts give for the head.
abbrev pub stepped : {S : Type 0} → Texts → Event → Replica S → Outcome S → Replica S
stepped texts event x o =
    record {
      state = o.state;
      said = x.said ++ map (remark_after x.past) (said_from (parties.Replica o.state.me) 0 o.deeds.acts);
      past = x.past ++ stands_in (own_view x.state) (whole.history_of texts x.state (history_of x.past) event o) o.deeds.acts;
    }

abbrev pub with_replica : {S : Type 0} → World S → ReplicaId → Replica S → World S
with_replica w id x = record w { replicas = slice_set w.replicas id.0 (Some x) }

abbrev pub replica_note : ReplicaId → Answer → Note
replica_note id Taken = notes.Quiet
replica_note id Held = notes.Quiet
replica_note id (Refused cause) = notes.Refused (Some (parties.Replica id)) cause

-- ---- the step of a correct client

-- a step that ends the waiting completes the request
abbrev pub completed_by : ClientState → ClientState → Option Done
completed_by before after =
    if is_waiting before.waiting then (if is_waiting after.waiting then None else after.done) else None

abbrev pub client_stepped : Client → ClientOutcome → Client
client_stepped x o =
    record { state = o.state; said = x.said ++ map (λ spoken. spoken.text) (map (spoken_of o.state.me) o.said) }

abbrev pub with_client : {S : Type 0} → World S → ClientId → Client → World S
with_client w id x = record w { clients = slice_set w.clients id.0 (Some x) }

abbrev pub with_done : {S : Type 0} → World S → ClientId → Option Done → World S
with_done w id done = record w { done = w.done ++ option_to_list (option_map (λ d. record { client = id; done = d }) done) }

abbrev pub client_answer : ClientId → Answer → Note
client_answer id Taken = notes.Quiet
client_answer id Held = notes.Quiet
client_answer id (Refused cause) = notes.Refused (Some (parties.Client id)) cause

abbrev pub client_note : ClientId → Option Done → Answer → Note
client_note id (Some done) answer = notes.Done id done
client_note id None answer = client_answer id answer

-- ---- texts and forged parts

abbrev pub go_with : {S : Type 0} → World S → (World S → World S) → Note → Result Texts Digest → Happened S
go_with w change note (Err d) = Breaks (Clash d)
go_with w change note (Ok texts) = Goes (change (record w { texts = texts })) note

-- the texts are kept, and then the world changes
abbrev pub keeping : {S : Type 0} → World S → List (List ℕ) → (World S → World S) → Note → Happened S
keeping w texts change note = go_with w change note (keep_all texts w.texts)

abbrev pub unless_forged : {S : Type 0} → Option Party → Happened S → Happened S
unless_forged None happened = happened
unless_forged (Some party) happened = Breaks (Forged party)

-- a replica makes a step by an event that brought these texts
abbrev pub replica_goes : {S : Type 0} → World S → ReplicaId → Replica S → List (List ℕ) → Event → Outcome S → Happened S
replica_goes w id x texts event o =
    keeping w (texts ++ step_texts o.deeds.acts)
    (λ v. with_sent (with_replica v id (stepped v.texts event x o)) (outgoing_of o.state.me.0 o.state.counts.n o.deeds.sent))
    (replica_note id o.answer)

abbrev pub client_goes : {S : Type 0} → World S → ClientId → Client → List (List ℕ) → ClientOutcome → Happened S
client_goes w id x texts o =
    keeping w texts
    (λ v. with_done (with_sent (with_client v id (client_stepped x o)) (client_outgoing o.state.counts.n o.sent)) id (completed_by x.state o.state))
    (client_note id (completed_by x.state o.state) o.answer)

-- ---- a request

abbrev pub ask_in : {S : Type 0} → World S → ClientId → List ℕ → Option (Option Client) → Happened S
ask_in w id op (Some (Some x)) = client_goes w id x [] (ask x.state op)
ask_in w id op (Some None) = no_subject w
ask_in w id op None = no_subject w

-- ---- a delivery: the frame is marked, and a liar does nothing else

abbrev pub bring_to_replica : {S : Type 0} → Rules S → World S → World S → ReplicaId → List ℕ → Option (Option (Replica S)) → Happened S
bring_to_replica R w marked id bytes (Some (Some x)) =
    unless_forged (forger_in w bytes) (replica_goes marked id x (texts_in bytes) (Heard bytes) (whole_step R x.state (Heard bytes)))
bring_to_replica R w marked id bytes (Some None) = Goes marked notes.Quiet
bring_to_replica R w marked id bytes None = no_subject w

abbrev pub bring_to_client : {S : Type 0} → World S → World S → ClientId → List ℕ → Option (Option Client) → Happened S
bring_to_client w marked id bytes (Some (Some x)) =
    unless_forged (forger_in w bytes) (client_goes marked id x (texts_in bytes) (client_step x.state (Heard bytes)))
bring_to_client w marked id bytes (Some None) = Goes marked notes.Quiet
bring_to_client w marked id bytes None = no_subject w

abbrev pub bring : {S : Type 0} → Rules S → World S → World S → Party → List ℕ → Happened S
bring R w marked (parties.Replica id) bytes = bring_to_replica R w marked id bytes (slice_get w.replicas id.0)
bring R w marked (parties.Client id) bytes = bring_to_client w marked id bytes (slice_get w.clients id.0)

abbrev pub deliver : {S : Type 0} → Rules S → World S → ℕ → Option Party → Option Mail → Happened S
deliver R w number to None = no_subject w
deliver R w number to (Some mail) = bring R w (delivered w number mail) (unwrap_or to mail.to) mail.bytes

-- ---- a timer: a replica has `request` and `change`, a client `answer`

abbrev pub replica_timer : {S : Type 0} → Rules S → World S → ReplicaId → Replica S → TimerKind → Happened S
replica_timer R w id x timers.Request = replica_goes w id x [] (Timer timers.Request) (whole_step R x.state (Timer timers.Request))
replica_timer R w id x timers.Change = replica_goes w id x [] (Timer timers.Change) (whole_step R x.state (Timer timers.Change))
replica_timer R w id x timers.Answer = no_subject w

abbrev pub client_timer : {S : Type 0} → World S → ClientId → Client → TimerKind → Happened S
client_timer w id x timers.Answer = client_goes w id x [] (client_step x.state (Timer timers.Answer))
client_timer w id x timers.Request = no_subject w
client_timer w id x timers.Change = no_subject w

abbrev pub replica_timer_in : {S : Type 0} → Rules S → World S → ReplicaId → TimerKind → Option (Option (Replica S)) → Happened S
replica_timer_in R w id kind (Some (Some x)) = replica_timer R w id x kind
replica_timer_in R w id kind (Some None) = no_subject w
replica_timer_in R w id kind None = no_subject w

abbrev pub client_timer_in : {S : Type 0} → World S → ClientId → TimerKind → Option (Option Client) → Happened S
client_timer_in w id kind (Some (Some x)) = client_timer w id x kind
client_timer_in w id kind (Some None) = no_subject w
client_timer_in w id kind None = no_subject w

abbrev pub timer_of : {S : Type 0} → Rules S → World S → Party → TimerKind → Happened S
timer_of R w (parties.Replica id) kind = replica_timer_in R w id kind (slice_get w.replicas id.0)
timer_of R w (parties.Client id) kind = client_timer_in w id kind (slice_get w.clients id.0)

-- ---- lies

-- how many signatures a key gives
abbrev pub signatures_in : {S : Type 0} → World S → ℕ
signatures_in w = signatures_by w.setup.height

-- with one signature of a liar spent
abbrev pub spent : {S : Type 0} → World S → Party → World S
spent w liar = record w { used = λ other. if same_party other liar then w.used other + 1 else w.used other }

-- a liar signs a frame with its next signature, for some parties
abbrev pub lie : {S : Type 0} → World S → Party → List Party → Option Telling → Happened S
lie w liar to None = no_subject w
lie w liar to (Some telling) =
    if is_liar w liar && are_parties w to
    then (if nat_lt (w.used liar) (signatures_in w)
    then Goes (with_sent (spent w liar) (copies (spelling_of (telling (sealer_of w.setup liar (w.used liar)))) to)) notes.Quiet
    else Goes w (notes.Refused None causes.KeySpent))
    else no_subject w

-- whoever made a correct party's key anew signs a frame with its last signature
abbrev pub forge : {S : Type 0} → World S → Party → List Party → Option Telling → Happened S
forge w party to None = no_subject w
forge w party to (Some telling) =
    if is_correct w party && are_parties w to
    then Goes (with_sent w (copies (spelling_of (telling (sealer_of w.setup party (signatures_in w - 1)))) to)) notes.Quiet
    else no_subject w

abbrev pub raw : {S : Type 0} → World S → List ℕ → List Party → Happened S
raw w bytes to = if are_parties w to then Goes (with_sent w (copies bytes to)) notes.Quiet else no_subject w

-- ---- all events

unfoldable pub happens : {S : Type 0} → Rules S → World S → WorldEvent → Happened S
happens R w (events.Ask client op) = ask_in w client op (slice_get w.clients client.0)
happens R w (events.Deliver number to) = deliver R w number to (mail_at w number)
happens R w (events.Timer party kind) = timer_of R w party kind
happens R w (events.Order liar view asks to) = lie w liar to (by_replica liar (option_and_then (order_told view) (requests_at w asks)))
happens R w (events.Spec liar view asks to reply) = lie w liar to (by_replica liar (option_and_then (spec_told view reply) (requests_at w asks)))
happens R w (events.Statement liar bytes to) = lie w liar to (if_short w.setup liar (statement_told bytes))
happens R w (events.Raw bytes to) = raw w bytes to
happens R w (events.Forge party bytes to) = forge w party to (if_short w.setup party (statement_told bytes))
