-- What a journal's disk holds of the turns of a node.
use Rattle.std.specs.Prelude.{◌≡◌, ◌⊎◌, ℕ, ◌+◌, ◌^◌, ◌≤◌, Bool, true, false, List, [], ◌++◌, length, take, Option, None, IfSome, Result, Ok, Err}
use Rattle.std.specs.List.{flat_map}
use Rattle.zy_base.specs.declared.ids.Digest.{Digest}
use Rattle.zy_edge.specs.Clock.{IsReading}
use Rattle.zy_edge.specs.Faults.{raised}
use Rattle.zy_edge.specs.Link.{Mail, Parcel, StaysAsTold}
use Rattle.zy_journal.specs.Disk.{LeavesOnly, StaysTold}
use Rattle.zy_journal.specs.Journal.{IsAtEnd, StandsFor, blocks}
use Rattle.zy_node.specs.Events.{events_of, records}
use Rattle.zy_node.specs.Rules.{Rules}
use Rattle.zy_node.specs.Told.{Moves, Outside, Sends, SendsFront}
use Rattle.zy_node.specs.Turn.{HostState, Reached, Turn, parcels_to, turned}
use Rattle.zy_node.specs.declared.fault.GiveFault.{GiveFault}
use Rattle.zy_node.specs.declared.fault.GiveFault.TheVariants as give_faults
use Rattle.zy_node.specs.declared.fault.TakeFault.{TakeFault}
use Rattle.zy_node.specs.declared.fault.TakeFault.TheVariants as take_faults
use Rattle.zy_node.specs.declared.owing.Owed.{Owed}

-- ---- nodes with a journal

-- a node, and the gate that ends its journal
pub record KeptState (S : Type 0) : Type 0 where
  pub host : HostState S
  pub gate : ℕ

-- and the datagrams that its events owe, which are stored
pub record UnsentState (S : Type 0) : Type 0 where
  pub host : HostState S
  pub gate : ℕ
  pub owed : List Parcel

-- once they are sent
abbrev pub given : {S : Type 0} → UnsentState S → KeptState S
given unsent = record { host = unsent.host; gate = unsent.gate }

-- nothing is owed, and no timer for answers runs
pub record IsReady {S : Type 0} (unsent : UnsentState S) : Type 0 where
  pub free : unsent.owed ≡ []
  pub silent : unsent.host.due.answer ≡ None

abbrev pub parcels_owed : Owed → List Parcel
parcels_owed owed = parcels_to owed.to owed.datagrams

abbrev pub all_owed : List Owed → List Parcel
all_owed owed = flat_map parcels_owed owed

-- ---- records on a disk

-- the records from before, and these behind them
abbrev pub HasAll : List ℕ → List (List ℕ) → List ℕ → Type 0
HasAll file records image = (identity : Digest) (pieces : List (List ℕ)) → StandsFor identity file pieces → StandsFor identity image (pieces ++ records)

-- the records from before, and so many of these behind them
abbrev pub HasFront : List ℕ → List (List ℕ) → List ℕ → Type 0
HasFront file records image = (identity : Digest) (pieces : List (List ℕ)) → StandsFor identity file pieces → (many : ℕ) × (many ≤ length records) × StandsFor identity image (pieces ++ take many records)

-- no gate stands above 2^30
abbrev pub HasRoom : ℕ → List (List ℕ) → Type 0
HasRoom gate records = (records ≡ []) ⊎ (gate + length (blocks records) ≤ 2 ^ 30)

-- a crash at any moment leaves the records from before, with a front of these
abbrev pub StoresFront : {D : Type 0} → (D → Option (List ℕ)) → (D → ℕ) → (D → ℕ → List ℕ → Type 0) → List (List ℕ) → D → D → Type 0
StoresFront contents moment left_since records old new = IfSome (contents old) (λ file. LeavesOnly moment left_since old new (HasFront file records))

-- all of these are stored, and the journal ends behind them
pub record Stores {D : Type 0} (contents : D → Option (List ℕ)) (may_leave : D → List ℕ → Type 0) (moment : D → ℕ) (left_since : D → ℕ → List ℕ → Type 0) (gate : ℕ) (records : List (List ℕ)) (next : ℕ) (old new : D) : Type 0 where
  pub told : StaysTold (contents old) (contents new)
  pub has : IfSome (contents old) (λ file. IfSome (contents new) (HasAll file records))
  pub any_moment : StoresFront contents moment left_since records old new
  pub end : IsAtEnd (contents new) (may_leave new) next
  pub place : next ≡ gate + length (blocks records)
  pub room : HasRoom gate records

-- they weren't all stored, as the disk failed, they don't fit the journal, or memory was wanted: a crash at any moment leaves
-- a front of them
abbrev pub StoresNot : {D : Type 0} → (D → Option (List ℕ)) → (D → ℕ) → (D → ℕ → List ℕ → Type 0) → ℕ → List (List ℕ) → TakeFault → D → D → Type 0
StoresNot contents moment left_since gate records take_faults.Disk old new = StoresFront contents moment left_since records old new
StoresNot contents moment left_since gate records take_faults.Link old new = ⊥
StoresNot contents moment left_since gate records take_faults.Full old new = (HasRoom gate records → ⊥) × StoresFront contents moment left_since records old new
StoresNot contents moment left_since gate records take_faults.Want old new = StoresFront contents moment left_since records old new

-- a part of a turn that was to come to this, and to store these records
abbrev pub KeepsAs : {S D : Type 0} → (D → Option (List ℕ)) → (D → List ℕ → Type 0) → (D → ℕ) → (D → ℕ → List ℕ → Type 0) → Reached S → List (List ℕ) → UnsentState S → Result (UnsentState S) TakeFault → D → D → Type 0
KeepsAs contents may_leave moment left_since r records before (Ok after) old new =
    (after.host ≡ r.host) × (after.owed ≡ before.owed ++ r.sent) × Stores contents may_leave moment left_since before.gate records after.gate old new
KeepsAs contents may_leave moment left_since r records before (Err fault) old new = StoresNot contents moment left_since before.gate records fault old new

abbrev pub is_disk_fault : {A : Type 0} → Result A TakeFault → Bool
is_disk_fault (Ok after) = false
is_disk_fault (Err take_faults.Disk) = true
is_disk_fault (Err take_faults.Link) = false
is_disk_fault (Err take_faults.Full) = false
is_disk_fault (Err take_faults.Want) = false

abbrev pub is_taken_link_fault : {A : Type 0} → Result A TakeFault → Bool
is_taken_link_fault (Ok after) = false
is_taken_link_fault (Err take_faults.Disk) = false
is_taken_link_fault (Err take_faults.Link) = true
is_taken_link_fault (Err take_faults.Full) = false
is_taken_link_fault (Err take_faults.Want) = false

-- ---- a turn

-- what a turn heard has left the link, its moment was read, and nothing was sent
pub record IsUnsent (turn : Turn) (from to : Outside) : Type 0 where
  pub mail : Moves turn.heard [] from.mail to.mail
  pub receives : to.receives ≡ raised from.receives
  pub moments : IsReading turn.now from.moments to.moments

abbrev pub turn_records : {S : Type 0} → Rules S → Turn → HostState S → List (List ℕ)
turn_records R turn host = records R (events_of R turn host) host.core

-- a turn: it is stored, and what it sends is owed
pub record IsTaken {S D : Type 0} (contents : D → Option (List ℕ)) (may_leave : D → List ℕ → Type 0) (moment : D → ℕ) (left_since : D → ℕ → List ℕ → Type 0) (R : Rules S) (before : KeptState S) (after : UnsentState S) (from to : Outside) (old new : D) : Type 0 where
  pub turn : Turn
  pub outside : IsUnsent turn from to
  pub host : after.host ≡ (turned R turn before.host).host
  pub owed : after.owed ≡ (turned R turn before.host).sent
  pub stored : Stores contents may_leave moment left_since before.gate (turn_records R turn before.host) after.gate old new

-- a turn of which not all could be stored
pub record IsCutTaking {S D : Type 0} (contents : D → Option (List ℕ)) (moment : D → ℕ) (left_since : D → ℕ → List ℕ → Type 0) (R : Rules S) (before : KeptState S) (fault : TakeFault) (from to : Outside) (old new : D) : Type 0 where
  pub turn : Turn
  pub outside : IsUnsent turn from to
  pub stored : StoresNot contents moment left_since before.gate (turn_records R turn before.host) fault old new

-- nothing was heard
pub record IsUnheard {D : Type 0} (from to : Outside) (old new : D) : Type 0 where
  pub mail : StaysAsTold from.mail to.mail
  pub receives : to.receives ≡ raised from.receives
  pub moments : to.moments ≡ from.moments
  pub disk : new ≡ old

abbrev pub TakesTo : {S D : Type 0} → (D → Option (List ℕ)) → (D → List ℕ → Type 0) → (D → ℕ) → (D → ℕ → List ℕ → Type 0) → Rules S → KeptState S → Result (UnsentState S) TakeFault → Outside → Outside → D → D → Type 0
TakesTo contents may_leave moment left_since R before (Ok after) from to old new = IsTaken contents may_leave moment left_since R before after from to old new
TakesTo contents may_leave moment left_since R before (Err take_faults.Disk) from to old new = IsCutTaking contents moment left_since R before take_faults.Disk from to old new
TakesTo contents may_leave moment left_since R before (Err take_faults.Link) from to old new = IsUnheard from to old new
TakesTo contents may_leave moment left_since R before (Err take_faults.Full) from to old new = IsCutTaking contents moment left_since R before take_faults.Full from to old new
TakesTo contents may_leave moment left_since R before (Err take_faults.Want) from to old new = IsCutTaking contents moment left_since R before take_faults.Want from to old new

-- ---- what is owed is sent

-- all of it, or where the link failed, a front; the node goes on
abbrev pub GivesTo : {S : Type 0} → UnsentState S → Result (KeptState S) (GiveFault (KeptState S)) → Option Mail → Option Mail → Type 0
GivesTo unsent (Ok node) before after = (node ≡ given unsent) × Sends unsent.owed before after
GivesTo unsent (Err (give_faults.Link node)) before after = (node ≡ given unsent) × SendsFront unsent.owed before after

abbrev pub is_give_fault : {A N : Type 0} → Result A (GiveFault N) → Bool
is_give_fault (Ok node) = false
is_give_fault (Err (give_faults.Link node)) = true
