-- Frames that flows have left, and the replicas that are out of their seats to hear them at once.
use Rattle.std.specs.Prelude.{◌≡◌, ℕ, ◌+◌, Bool, true, false, if◌then◌else◌, List, [], ◌∷◌, ◌++◌, map, slice_get, slice_set, slice_index_or, Option, Some, None, Result, IfOk}
use Rattle.zy_base.specs.Machine.{Rules}
use Rattle.zy_base.specs.declared.ids.Party.{Party}
use Rattle.zy_base.specs.declared.ids.Party.TheVariants as parties
use Rattle.zy_base.specs.declared.ids.ReplicaId.{ReplicaId}
use Rattle.zy_base.specs.declared.step.Event.TheVariants.{Heard}
use Rattle.zy_base.specs.declared.want.Want.{Want}
use Rattle.zy_table.specs.State.{State}
use Rattle.zy_table.specs.Whole.{whole_step}
use Rattle.zy_world.specs.Shown.{Shown, with_replicas}
use Rattle.zy_world.specs.Shows.{Shows}
use Rattle.zy_world.specs.Stepping.{IsReplicaStep}
use Rattle.zy_world.specs.declared.batch.Due.{Due}
use Rattle.zy_world.specs.declared.batch.Turn.{Turn}
use Rattle.zy_world.specs.declared.batch.Turn.TheVariants as turns
use Rattle.zy_world.specs.declared.step.Gone.{Gone}
use Rattle.zy_world.specs.declared.step.Job.{Job}
use Rattle.zy_world_law.specs.Events.{Happened}
use Rattle.zy_world_law.specs.Events.Happened.{Goes}
use Rattle.zy_world_law.specs.World.{World, Replica, Mail, is_due, is_told, mail_at}
use Rattle.zy_world_law.specs.declared.note.Note.{Note}

-- ---- what flows have left

abbrev pub due_of : ℕ → Mail → Due
due_of number mail = record { number = number; to = mail.to; bytes = mail.bytes }

-- of frames whose numbers begin with this one
abbrev pub due_from : (Mail → Bool) → ℕ → List Mail → List Due
due_from test number [] = []
due_from test number (mail ∷ more) = if test mail then due_of number mail ∷ due_from test (number + 1) more else due_from test (number + 1) more

-- these are the next
pub record AreNext {S : Type 0} (g : World S) (dues : List Due) : Type 0 where
  pub more : List Due
  pub all : due_from (is_due g) 1 g.bag ≡ dues ++ more

-- ---- frames of which no two go to one replica

-- whether a replica sits in its seat; clients do
abbrev pub is_free : Party → List Bool → Bool
is_free (parties.Replica id) sits = slice_index_or sits id.0 false
is_free (parties.Client id) sits = true

abbrev pub with_taken : Party → List Bool → List Bool
with_taken (parties.Replica id) sits = slice_set sits id.0 false
with_taken (parties.Client id) sits = sits

-- Each of their replicas sits in its seat until it is taken out of it; the others sit there behind the last frame.
abbrev pub AreApart : List Bool → List Due → List Bool → Type 0
AreApart left [] sits = sits ≡ left
AreApart left (due ∷ more) sits = (is_free due.to sits ≡ true) × AreApart left more (with_taken due.to sits)

-- the next frames, of which no two go to one replica
pub record IsBatch {S : Type 0} (g : World S) (dues : List Due) (v : Shown S) : Type 0 where
  pub next : AreNext g dues
  pub left : List Bool
  pub apart : AreApart left dues (map is_told v.seats.replicas)

-- ---- replicas that are out of their seats

pub record IsJob {M S : Type 0} (s : State S) (frame : List ℕ) (job : Job M S) : Type 0 where
  pub replica : job.replica ≡ s
  pub bytes : job.bytes ≡ frame

-- a replica of this state heard this frame
pub record IsGone {M S : Type 0} (R : Rules S) (s : State S) (bytes : List ℕ) (gone : Gone M S) : Type 0 where
  pub replica : gone.replica ≡ (whole_step R s (Heard bytes)).state
  pub step : IsReplicaStep (whole_step R s (Heard bytes)) gone.step

-- or memory is wanted
abbrev pub MayBeGone : {M S : Type 0} → Rules S → State S → List ℕ → Result (Gone M S) Want → Type 0
MayBeGone R s bytes result = IfOk result (IsGone R s bytes)

-- The replica to which a frame goes is taken out of its seat, if it sits there, and there is an item for it.
abbrev pub takes_for : {S X : Type 0} → (S → List ℕ → X → Type 0) → Party → List ℕ → List (Option S) → List (Option S) → List X → List X → Type 0
takes_for P (parties.Client id) bytes old new before after = (new ≡ old) × (after ≡ before)
takes_for {S} {X} P (parties.Replica id) bytes old new before after =
    (s : S) → slice_get old id.0 ≡ Some (Some s) → (new ≡ slice_set old id.0 None) × ((item : X) × P s bytes item × (after ≡ before ++ item ∷ []))

abbrev pub out_for : {S X : Type 0} → (S → List ℕ → X → Type 0) → Party → List ℕ → (List (Option S) → List X → Type 0) → List (Option S) → List X → Type 0
out_for P (parties.Client id) bytes rest seats items = rest seats items
out_for P (parties.Replica id) bytes rest seats [] = ⊥
out_for {S} P (parties.Replica id) bytes rest seats (item ∷ items) =
    (s : S) × (slice_get seats id.0 ≡ Some (Some s)) × P s bytes item × rest (slice_set seats id.0 None) items

-- The replicas of these frames are out of their seats, which leaves those others. For each there is an item, in order, of which P tells
-- what it is to the replica's state and the frame's bytes.
abbrev pub AreOut : {S X : Type 0} → (S → List ℕ → X → Type 0) → List (Option S) → List Due → List (Option S) → List X → Type 0
AreOut P left [] seats items = (seats ≡ left) × (items ≡ [])
AreOut P left (due ∷ more) seats items = out_for P due.to due.bytes (AreOut P left more) seats items

-- ---- turns

-- The world is shown but for the replicas that are out: with them in their seats, as they were, it would be. Each made the step already
-- that its frame makes it take.
pub record ShowsAhead {M S : Type 0} (R : Rules S) (g : World S) (dues : List Due) (made : List (Result (Gone M S) Want)) (v : Shown S) : Type 0 where
  pub before : List (Option (State S))
  pub shows : Shows g (with_replicas (λ xs. before) v)
  pub next : AreNext g dues
  pub out : AreOut (MayBeGone R) v.seats.replicas dues before made

-- whose turn a frame of this number is: a replica has its bytes with it
abbrev pub turn_to : ℕ → List ℕ → Party → Turn
turn_to number bytes (parties.Replica id) = turns.Replica number id
turn_to number bytes (parties.Client id) = turns.Client number id bytes

abbrev pub turn_of : Due → Turn
turn_of due = turn_to due.number due.bytes due.to

-- these turns are left
pub record ShowsTurns {M S : Type 0} (R : Rules S) (g : World S) (turns : List Turn) (made : List (Result (Gone M S) Want)) (v : Shown S) : Type 0 where
  pub dues : List Due
  pub are : turns ≡ map turn_of dues
  pub ahead : ShowsAhead R g dues made v

-- it goes on with this note to a world that is shown so
pub record GoesAhead {M S : Type 0} (R : Rules S) (happened : Happened S) (dues : List Due) (made : List (Result (Gone M S) Want)) (note : Note) (v : Shown S) : Type 0 where
  pub world : World S
  pub goes : happened ≡ Goes world note
  pub shows : ShowsAhead R world dues made v

-- The replica of this number is out, and went on to this one by the frame of this number.
pub record IsTurn {M S : Type 0} (R : Rules S) (g : World S) (number : ℕ) (mail : Mail) (id : ReplicaId) (x : Replica S) (before : List (Option (State S))) (back : Gone M S) (v : Shown S) : Type 0 where
  pub shows : Shows g (with_replicas (λ xs. before) v)
  pub there : mail_at g number ≡ Some mail
  pub sits : slice_get g.replicas id.0 ≡ Some (Some x)
  pub gone : IsGone R x.state mail.bytes back
