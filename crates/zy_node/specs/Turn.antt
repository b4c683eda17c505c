-- What a turn makes of a node, and what a run of turns does.
use Rattle.std.specs.Prelude.{ℕ, nat_le, if◌then◌else◌, List, [], ◌∷◌, ◌++◌, length, map, Option, Some, None}
use Rattle.std.specs.List.{flat_map}
use Rattle.zy_base.specs.declared.ids.Party.{Party}
use Rattle.zy_base.specs.declared.step.Event.{Event}
use Rattle.zy_base.specs.declared.step.Event.TheVariants as events
use Rattle.zy_base.specs.declared.step.TimerKind.{TimerKind}
use Rattle.zy_base.specs.declared.step.TimerKind.TheVariants as kinds
use Rattle.zy_edge.specs.Link.{Parcel}
use Rattle.zy_pieces.specs.Gathering.{Gathering, added}
use Rattle.zy_pieces.specs.Pieces.{cut_of}
use Rattle.zy_pieces.specs.declared.gather.Gathered.{Gathered}
use Rattle.zy_pieces.specs.declared.gather.Gathered.TheVariants.{Whole, Part, Refused}
use Rattle.zy_node.specs.declared.due.Due.{Due}
use Rattle.zy_node.specs.Rules.{Rules}
use Rattle.zy_node.specs.Timing.{moment_of, no_moments, kept_for, begun_at, is_reached, again_at}
use Rattle.zy_wire.specs.Kind.{frame_limit}

-- the core, the frames of which some pieces have come, and when the timers run out
pub record HostState (S : Type 0) : Type 0 where
  pub core : S
  pub frames : List Gathering
  pub due : Due

-- nothing has come yet, and the timers that are to run begin to run
abbrev pub host_of : {S : Type 0} → S → HostState S
host_of core = record { core = core; frames = []; due = no_moments }

-- ---- frames as datagrams

-- a frame of more than 4,194,304 bytes has no pieces, and no core sends one
abbrev pub pieces_of : List ℕ → List (List ℕ)
pieces_of frame = if nat_le (length frame) frame_limit then cut_of frame else []

abbrev pub parcels_to : Party → List (List ℕ) → List Parcel
parcels_to to datagrams = map (λ bytes. record { to = to; bytes = bytes }) datagrams

abbrev pub parcels_of : Party × List ℕ → List Parcel
parcels_of sent = parcels_to sent.0 (pieces_of sent.1)

-- the pieces of the frames in order
abbrev pub all_parcels : List (Party × List ℕ) → List Parcel
all_parcels sent = flat_map parcels_of sent

-- ---- the stages of a turn

-- a node on its way through a turn, and the datagrams that the turn has sent
pub record Reached (S : Type 0) : Type 0 where
  pub host : HostState S
  pub sent : List Parcel

abbrev pub stays : {S : Type 0} → HostState S → Reached S
stays host = record { host = host; sent = [] }

-- goes on with what comes next
abbrev pub onward : {S : Type 0} → Reached S → (HostState S → Reached S) → Reached S
onward r next = record { host = (next r.host).host; sent = r.sent ++ (next r.host).sent }

-- the core takes a step
unfoldable pub steps : {S : Type 0} → Rules S → Event → HostState S → Reached S
steps R event host = record {
  host = record {
    core = (R.step event host.core).state;
    frames = host.frames;
    due = kept_for (R.timers (R.step event host.core).state) host.due;
  };
  sent = all_parcels (R.step event host.core).sent;
}

-- a frame is heard where its last piece makes it whole
abbrev pub gathers : {S : Type 0} → Rules S → Gathered → HostState S → Reached S
gathers R (Whole frame) host = steps R (events.Heard frame) host
gathers R Part host = stays host
gathers R (Refused fault) host = stays host

abbrev pub takes : {S : Type 0} → Rules S → List ℕ → HostState S → Reached S
takes R datagram host = gathers R (added host.frames datagram).answer (record host { frames = (added host.frames datagram).frames })

-- a datagram comes, or none
abbrev pub hears : {S : Type 0} → Rules S → Option (List ℕ) → HostState S → Reached S
hears R None host = stays host
hears R (Some datagram) host = takes R datagram host

-- the clock is read
unfoldable pub reads : {S : Type 0} → Rules S → ℕ → HostState S → HostState S
reads R now host = record host { due = begun_at now (R.timers host.core) host.due }

-- a timer whose moment has come fires, and runs again where it is still to run
unfoldable pub fires : {S : Type 0} → Rules S → TimerKind → ℕ → HostState S → Reached S
fires R kind now host =
    if is_reached now (moment_of kind host.due)
    then steps R (events.Timer kind) (record host { due = again_at now kind host.due })
    else stays host

-- the timers fire up to this one, in their order
abbrev pub fires_to : {S : Type 0} → Rules S → TimerKind → ℕ → HostState S → Reached S
fires_to R kinds.Request now host = fires R kinds.Request now host
fires_to R kinds.Change now host = onward (fires R kinds.Request now host) (fires R kinds.Change now)
fires_to R kinds.Answer now host = onward (onward (fires R kinds.Request now host) (fires R kinds.Change now)) (fires R kinds.Answer now)

-- ---- a turn

-- what it hears, and the moment that it reads
pub record Turn : Type 0 where
  pub heard : Option (List ℕ)
  pub now : ℕ

-- how far a turn has come: it has begun, or taken what it heard, or read the clock and fired the timers up to this one
pub data Stage : Type 0 where
  Begun : Stage
  Heard : Stage
  Fired : TimerKind → Stage

abbrev pub reached : {S : Type 0} → Rules S → Stage → Turn → HostState S → Reached S
reached R Begun t host = stays host
reached R Heard t host = hears R t.heard host
reached R (Fired kind) t host = onward (hears R t.heard host) (λ heard. fires_to R kind t.now (reads R t.now heard))

-- the whole turn: the last of the timers is a client's
unfoldable pub turned : {S : Type 0} → Rules S → Turn → HostState S → Reached S
turned R t host = reached R (Fired kinds.Answer) t host

-- ---- a run

abbrev pub run : {S : Type 0} → Rules S → List Turn → HostState S → Reached S
run R [] host = stays host
run R (t ∷ turns) host = onward (turned R t host) (run R turns)
