-- The events of a node's turns, and those of them that a journal keeps.
use Rattle.std.specs.Prelude.{◌≡◌, ℕ, ◌<◌, Bool, true, false, if◌then◌else◌, List, [], ◌∷◌, ◌++◌, length, map, Option, Some, None}
use Rattle.zy_base.specs.declared.ids.Party.{Party}
use Rattle.zy_base.specs.declared.step.Event.{Event}
use Rattle.zy_base.specs.declared.step.Event.TheVariants as events
use Rattle.zy_base.specs.declared.step.TimerKind.{TimerKind}
use Rattle.zy_base.specs.declared.step.TimerKind.TheVariants as kinds
use Rattle.zy_pieces.specs.Gathering.{added}
use Rattle.zy_pieces.specs.declared.gather.Gathered.{Gathered}
use Rattle.zy_pieces.specs.declared.gather.Gathered.TheVariants.{Whole, Part, Refused}
use Rattle.zy_node.specs.Rules.{Rules}
use Rattle.zy_node.specs.Timing.{is_reached, moment_of}
use Rattle.zy_node.specs.Turn.{HostState, Turn, all_parcels, hears, reads, fires_to, run, turned}

-- ---- runs of events

-- a core after them
abbrev pub after : {S : Type 0} → Rules S → List Event → S → S
after R [] core = core
after R (event ∷ events) core = after R events (R.step event core).state

-- the frames that their steps send, in order
abbrev pub sent_by : {S : Type 0} → Rules S → List Event → S → List (Party × List ℕ)
sent_by R [] core = []
sent_by R (event ∷ events) core = (R.step event core).sent ++ sent_by R events (R.step event core).state

abbrev pub unless_refused : Bool → Event → List Event → List Event
unless_refused true event events = events
unless_refused false event events = event ∷ events

-- those that aren't refused on the way
abbrev pub kept : {S : Type 0} → Rules S → List Event → S → List Event
kept R [] core = []
kept R (event ∷ events) core = unless_refused (R.step event core).refused event (kept R events (R.step event core).state)

-- ---- the events of a turn

-- the frame that a datagram makes whole
abbrev pub events_in : Gathered → List Event
events_in (Whole frame) = events.Heard frame ∷ []
events_in Part = []
events_in (Refused fault) = []

abbrev pub events_heard : {S : Type 0} → Option (List ℕ) → HostState S → List Event
events_heard None host = []
events_heard (Some datagram) host = events_in (added host.frames datagram).answer

-- a timer whose moment has come
abbrev pub event_due : {S : Type 0} → TimerKind → ℕ → HostState S → List Event
event_due kind now host = if is_reached now (moment_of kind host.due) then events.Timer kind ∷ [] else []

-- the timers up to this one, each where those before it have left the node
abbrev pub events_due : {S : Type 0} → Rules S → TimerKind → ℕ → HostState S → List Event
events_due R kinds.Request now host = event_due kinds.Request now host
events_due R kinds.Change now host = event_due kinds.Request now host ++ event_due kinds.Change now (fires_to R kinds.Request now host).host
events_due R kinds.Answer now host = (event_due kinds.Request now host ++ event_due kinds.Change now (fires_to R kinds.Request now host).host) ++ event_due kinds.Answer now (fires_to R kinds.Change now host).host

abbrev pub events_of : {S : Type 0} → Rules S → Turn → HostState S → List Event
events_of R t host = events_heard t.heard host ++ events_due R kinds.Answer t.now (reads R t.now (hears R t.heard host).host)

-- of turns, one after another
abbrev pub events_of_all : {S : Type 0} → Rules S → List Turn → HostState S → List Event
events_of_all R [] host = []
events_of_all R (t ∷ turns) host = events_of R t host ++ events_of_all R turns (turned R t host).host

-- ---- records

-- a replica has no timer for answers, and no record spells it
abbrev pub timer_bytes : TimerKind → List ℕ
timer_bytes kinds.Request = 2 ∷ []
timer_bytes kinds.Change = 3 ∷ []
timer_bytes kinds.Answer = []

-- the record of an event
abbrev pub event_bytes : Event → List ℕ
event_bytes (events.Heard frame) = 1 ∷ frame
event_bytes (events.Timer kind) = timer_bytes kind

-- of the events that aren't refused
abbrev pub records : {S : Type 0} → Rules S → List Event → S → List (List ℕ)
records R events core = map event_bytes (kept R events core)

-- ---- what a journal needs of a core

-- a refused event leaves the core as it is and sends nothing, a frame that no record holds is refused, no timer for answers runs, and it
-- is never done
pub record SuitsJournal {S : Type 0} (R : Rules S) : Type 0 where
  pub still : (event : Event) (core : S) → (R.step event core).refused ≡ true → ((R.step event core).state ≡ core) × ((R.step event core).sent ≡ [])
  pub short : (frame : List ℕ) (core : S) → 8388608 < length frame → (R.step (events.Heard frame) core).refused ≡ true
  pub unanswered : (core : S) → (R.timers core).answer ≡ false
  pub unending : (core : S) → R.is_done core ≡ false

-- turns come to what their kept events do, and send what these send
pub record IsSameAsKept {S : Type 0} (R : Rules S) (turns : List Turn) (host : HostState S) : Type 0 where
  pub core : (run R turns host).host.core ≡ after R (kept R (events_of_all R turns host) host.core) host.core
  pub sent : (run R turns host).sent ≡ all_parcels (sent_by R (kept R (events_of_all R turns host) host.core) host.core)
