-- What turns come to whose events are stored before anything of them is sent.
use Rattle.std.specs.Prelude.{◌≡◌, ◌⊎◌, ℕ, ◌<◌, ◌≤◌, List, ◌++◌, length, map, take, Option, Some, IfSome, Result, Ok, Err}
use Rattle.zy_base.specs.declared.ids.Digest.{Digest}
use Rattle.zy_base.specs.declared.step.Event.{Event}
use Rattle.zy_edge.specs.Clock.{IsReading}
use Rattle.zy_edge.specs.Faults.{raised}
use Rattle.zy_edge.specs.Link.{Mail, Parcel}
use Rattle.zy_journal.specs.Journal.{StandsFor}
use Rattle.zy_node.specs.Events.{event_bytes, events_of_all, records, sent_by}
use Rattle.zy_node.specs.Keeping.{IsCutTaking, IsUnheard, KeptState, Stores, turn_records}
use Rattle.zy_node.specs.Rules.{Rules}
use Rattle.zy_node.specs.Told.{IsRun, IsTurn, MovesFront, Outside}
use Rattle.zy_node.specs.Turn.{Turn, all_parcels, turned}
use Rattle.zy_node.specs.declared.fault.TakeFault.{TakeFault}
use Rattle.zy_node.specs.declared.fault.TakeFault.TheVariants as take_faults

-- ---- a turn

-- its records are stored, and then its datagrams are sent
pub record IsKeptTurn {S D : Type 0} (contents : D → Option (List ℕ)) (may_leave : D → List ℕ → Type 0) (moment : D → ℕ) (left_since : D → ℕ → List ℕ → Type 0) (R : Rules S) (before after : KeptState S) (from to : Outside) (old new : D) : Type 0 where
  pub turn : IsTurn R before.host after.host from to
  pub stored : Stores contents may_leave moment left_since before.gate (turn_records R turn.turn before.host) after.gate old new

-- the link failed once all was stored: a front of the datagrams was sent
pub record IsHalfGiven {S D : Type 0} (contents : D → Option (List ℕ)) (may_leave : D → List ℕ → Type 0) (moment : D → ℕ) (left_since : D → ℕ → List ℕ → Type 0) (R : Rules S) (before : KeptState S) (from to : Outside) (old new : D) : Type 0 where
  pub turn : Turn
  pub mail : MovesFront turn.heard (turned R turn before.host).sent from.mail to.mail
  pub receives : to.receives ≡ raised from.receives
  pub moments : IsReading turn.now from.moments to.moments
  pub next : ℕ
  pub stored : Stores contents may_leave moment left_since before.gate (turn_records R turn before.host) next old new

abbrev pub IsCutOff : {S D : Type 0} → (D → Option (List ℕ)) → (D → List ℕ → Type 0) → (D → ℕ) → (D → ℕ → List ℕ → Type 0) → Rules S → KeptState S → TakeFault → Outside → Outside → D → D → Type 0
IsCutOff contents may_leave moment left_since R before take_faults.Disk from to old new = IsCutTaking contents moment left_since R before take_faults.Disk from to old new
IsCutOff contents may_leave moment left_since R before take_faults.Link from to old new = IsUnheard from to old new ⊎ IsHalfGiven contents may_leave moment left_since R before from to old new
IsCutOff contents may_leave moment left_since R before take_faults.Full from to old new = IsCutTaking contents moment left_since R before take_faults.Full from to old new
IsCutOff contents may_leave moment left_since R before take_faults.Want from to old new = IsCutTaking contents moment left_since R before take_faults.Want from to old new

abbrev pub KeepsTurn : {S D : Type 0} → (D → Option (List ℕ)) → (D → List ℕ → Type 0) → (D → ℕ) → (D → ℕ → List ℕ → Type 0) → Rules S → KeptState S → Result (KeptState S) TakeFault → Outside → Outside → D → D → Type 0
KeepsTurn contents may_leave moment left_since R before (Ok after) from to old new = IsKeptTurn contents may_leave moment left_since R before after from to old new
KeepsTurn contents may_leave moment left_since R before (Err fault) from to old new = IsCutOff contents may_leave moment left_since R before fault from to old new

-- ---- a run

-- so many turns, and the records of their events behind those from before
pub record IsKeptRun {S D : Type 0} (contents : D → Option (List ℕ)) (may_leave : D → List ℕ → Type 0) (moment : D → ℕ) (left_since : D → ℕ → List ℕ → Type 0) (R : Rules S) (many : ℕ) (before after : KeptState S) (from to : Outside) (old new : D) : Type 0 where
  pub run : IsRun R many before.host after.host from to
  pub stored : Stores contents may_leave moment left_since before.gate (records R (events_of_all R run.turns before.host) before.host.core) after.gate old new

-- fewer turns, and then one that was cut off
pub record IsCutKeptRun {S D : Type 0} (contents : D → Option (List ℕ)) (may_leave : D → List ℕ → Type 0) (moment : D → ℕ) (left_since : D → ℕ → List ℕ → Type 0) (R : Rules S) (most : ℕ) (before : KeptState S) (fault : TakeFault) (from to : Outside) (old new : D) : Type 0 where
  pub many : ℕ
  pub fewer : many < most
  pub last : KeptState S
  pub between : Outside
  pub mid : D
  pub run : IsKeptRun contents may_leave moment left_since R many before last from between old mid
  pub cut : IsCutOff contents may_leave moment left_since R last fault between to mid new

abbrev pub KeepsRun : {S D : Type 0} → (D → Option (List ℕ)) → (D → List ℕ → Type 0) → (D → ℕ) → (D → ℕ → List ℕ → Type 0) → Rules S → ℕ → KeptState S → Result (KeptState S) TakeFault → Outside → Outside → D → D → Type 0
KeepsRun contents may_leave moment left_since R most before (Ok after) from to old new = IsKeptRun contents may_leave moment left_since R most before after from to old new
KeepsRun contents may_leave moment left_since R most before (Err fault) from to old new = IsCutKeptRun contents may_leave moment left_since R most before fault from to old new

-- ---- what such a run promises, however it ends

-- the image stands for the records from before, and for so many of these or more, from the first on
abbrev pub HasLeast : ℕ → List ℕ → List (List ℕ) → List ℕ → Type 0
HasLeast least file pieces image = (identity : Digest) (earlier : List (List ℕ)) → StandsFor identity file earlier
    → (many : ℕ) × (least ≤ many) × (many ≤ length pieces) × StandsFor identity image (earlier ++ take many pieces)

-- of these datagrams a front stands behind those that were sent
pub record FrontSent (all : List Parcel) (mail : Mail) (after : Option Mail) : Type 0 where
  pub later : Mail
  pub told : after ≡ Some later
  pub front : List Parcel
  pub rest : List Parcel
  pub parts : all ≡ front ++ rest
  pub sent : later.sent ≡ mail.sent ++ front

-- Nothing is sent but what is owed for the first so many of these events, and whatever a crash leaves now has the records of at least
-- those; the others' may be there.
pub record KeepsWord {S D : Type 0} (contents : D → Option (List ℕ)) (may_leave : D → List ℕ → Type 0) (R : Rules S) (core : S) (before after : Option Mail) (old new : D) : Type 0 where
  pub events : List Event
  pub given : ℕ
  pub part : given ≤ length events
  pub sent : IfSome before (λ mail. FrontSent (all_parcels (sent_by R (take given events) core)) mail after)
  pub held : IfSome (contents old) (λ file. (image : List ℕ) → may_leave new image → HasLeast given file (map event_bytes events) image)
