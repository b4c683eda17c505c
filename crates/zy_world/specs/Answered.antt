-- What is answered to an event, by what the definitions make of it.
use Rattle.std.specs.Prelude.{◌≡◌, ℕ, Bool, true, false, List, [], slice_get, Option, Some, None, Result, Ok, Err, ⊤}
use Rattle.zy_base.specs.Machine.{Rules}
use Rattle.zy_base.specs.declared.ids.ClientId.{ClientId}
use Rattle.zy_base.specs.declared.ids.Digest.{Digest}
use Rattle.zy_base.specs.declared.ids.Party.{Party}
use Rattle.zy_base.specs.declared.ids.Party.TheVariants as parties
use Rattle.zy_base.specs.declared.ids.ReplicaId.{ReplicaId}
use Rattle.zy_base.specs.declared.step.Event.{Event}
use Rattle.zy_base.specs.declared.step.TimerKind.{TimerKind}
use Rattle.zy_base.specs.declared.step.TimerKind.TheVariants as timers
use Rattle.zy_table.specs.ClientRows.{client_step}
use Rattle.zy_table.specs.Whole.{whole_step}
use Rattle.zy_world_setup.specs.declared.fault.TextFault.{TextFault}
use Rattle.zy_world_setup.specs.declared.fault.TextFault.TheVariants as text_faults
use Rattle.zy_world.specs.Shown.{Shown}
use Rattle.zy_world.specs.Shows.{Shows}
use Rattle.zy_world.specs.declared.fault.WorldFault.{WorldFault}
use Rattle.zy_world.specs.declared.fault.WorldFault.TheVariants as faults
use Rattle.zy_world_law.specs.Events.{Broken, Happened, no_subject, replica_goes, client_goes}
use Rattle.zy_world_law.specs.Events.Broken.{Forged as ShowsForged, Clash as ShowsClash}
use Rattle.zy_world_law.specs.Events.Happened.{Goes, Breaks}
use Rattle.zy_world_law.specs.Honest.{forger_in}
use Rattle.zy_world_law.specs.Texts.{texts_in, keep_all}
use Rattle.zy_world_law.specs.World.{World, Replica, Client, Texts}
use Rattle.zy_world_law.specs.declared.note.Note.{Note}

-- it goes on with this note to a world that is shown so
pub record GoesTo {S : Type 0} (happened : Happened S) (note : Note) (shown : Shown S) : Type 0 where
  pub world : World S
  pub goes : happened ≡ Goes world note
  pub shows : Shows world shown

-- it isn't honest, for what this fault tells; want of memory tells nothing
abbrev pub IsBrokenBy : {S : Type 0} → Happened S → WorldFault → Type 0
IsBrokenBy happened (faults.Forged by) = happened ≡ Breaks (ShowsForged by)
IsBrokenBy happened (faults.Clash digest) = happened ≡ Breaks (ShowsClash digest)
IsBrokenBy happened faults.Want = ⊤

-- ---- a frame is heard: no part of it is forged, and what it brings is kept

abbrev pub heard_of : Option Party → Result Texts Digest → Result Texts Broken
heard_of (Some by) kept = Err (ShowsForged by)
heard_of None (Err digest) = Err (ShowsClash digest)
heard_of None (Ok texts) = Ok texts

unfoldable pub heard : {S : Type 0} → World S → List ℕ → Result Texts Broken
heard w bytes = heard_of (forger_in w bytes) (keep_all (texts_in bytes) w.texts)

-- the texts are kept then, in a world that is shown so
pub record HeardTo {S : Type 0} (w : World S) (bytes : List ℕ) (shown : Shown S) : Type 0 where
  pub texts : Texts
  pub kept : heard w bytes ≡ Ok texts
  pub shows : Shows (record w { texts = texts }) shown

abbrev pub IsUnheardBy : {S : Type 0} → World S → List ℕ → WorldFault → Type 0
IsUnheardBy w bytes (faults.Forged by) = heard w bytes ≡ Err (ShowsForged by)
IsUnheardBy w bytes (faults.Clash digest) = heard w bytes ≡ Err (ShowsClash digest)
IsUnheardBy w bytes faults.Want = ⊤

-- ---- a party in a seat makes a step; where none is correct the event has no subject

unfoldable pub replica_steps : {S : Type 0} → Rules S → World S → ReplicaId → Event → Option (Option (Replica S)) → Happened S
replica_steps R w id event (Some (Some x)) = replica_goes w id x [] event (whole_step R x.state event)
replica_steps R w id event (Some None) = no_subject w
replica_steps R w id event None = no_subject w

unfoldable pub client_steps : {S : Type 0} → World S → ClientId → Event → Option (Option Client) → Happened S
client_steps w id event (Some (Some x)) = client_goes w id x [] (client_step x.state event)
client_steps w id event (Some None) = no_subject w
client_steps w id event None = no_subject w

unfoldable pub steps : {S : Type 0} → Rules S → World S → Party → Event → Happened S
steps R w (parties.Replica id) event = replica_steps R w id event (slice_get w.replicas id.0)
steps R w (parties.Client id) event = client_steps w id event (slice_get w.clients id.0)

-- a replica has the timers `request` and `change`, a client `answer`
abbrev pub has_timer : Party → TimerKind → Bool
has_timer (parties.Replica id) timers.Request = true
has_timer (parties.Replica id) timers.Change = true
has_timer (parties.Replica id) timers.Answer = false
has_timer (parties.Client id) timers.Answer = true
has_timer (parties.Client id) timers.Request = false
has_timer (parties.Client id) timers.Change = false

-- ---- faults of texts

abbrev pub world_fault : TextFault → WorldFault
world_fault (text_faults.Clash digest) = faults.Clash digest
world_fault text_faults.Want = faults.Want
