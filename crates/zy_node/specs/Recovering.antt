-- What a journal's records make of a core.
use Rattle.std.specs.Prelude.{◌≡◌, ◌⊎◌, ℕ, ◌+◌, Bool, true, false, List, [], length, map, Option, IfSome, Result, Ok, Err, ⊤}
use Rattle.std.specs.List.{AllByRecursion}
use Rattle.zy_base.specs.declared.step.Event.{Event}
use Rattle.zy_journal.specs.Disk.{StandsAt}
use Rattle.zy_journal.specs.Journal.{HasRecord, IsDamaged, IsPiece, IsShut, blocks}
use Rattle.zy_journal.specs.declared.reading.NextFault.{NextFault}
use Rattle.zy_journal.specs.declared.reading.NextFault.TheVariants as next_faults
use Rattle.zy_node.specs.Events.{after, event_bytes}
use Rattle.zy_node.specs.Keeping.{KeptState}
use Rattle.zy_node.specs.Rules.{Rules}
use Rattle.zy_node.specs.Turn.{host_of}
use Rattle.zy_node.specs.declared.fault.RecoverFault.{RecoverFault}
use Rattle.zy_node.specs.declared.fault.RecoverFault.TheVariants as recover_faults

-- no event is spelled so
abbrev pub IsNoEvent : List ℕ → Type 0
IsNoEvent piece = (event : Event) → event_bytes event ≡ piece → ⊥

-- from this gate on these records stand in the file
pub record AreRead (file : List ℕ) (gate : ℕ) (pieces : List (List ℕ)) : Type 0 where
  pub fit : AllByRecursion IsPiece pieces
  pub stand : StandsAt (blocks pieces) gate file

-- and no other
pub record AreListed (file : List ℕ) (gate : ℕ) (pieces : List (List ℕ)) : Type 0 where
  pub read : AreRead file gate pieces
  pub shut : IsShut file (gate + length (blocks pieces))

-- each record spells an event, and the core has taken the steps of these
pub record IsRecovered {S : Type 0} (R : Rules S) (core : S) (contents : Option (List ℕ)) (gate : ℕ) (now : KeptState S) : Type 0 where
  pub events : List Event
  pub listed : IfSome contents (λ file. AreListed file gate (map event_bytes events))
  pub place : now.gate ≡ gate + length (blocks (map event_bytes events))
  pub host : now.host ≡ host_of (after R events core)

-- behind records that spell events an open gate has no record, or one that spells none
abbrev pub IsBroken : List ℕ → ℕ → Type 0
IsBroken file gate = IsDamaged file gate ⊎ ((piece : List ℕ) × HasRecord file gate piece × IsNoEvent piece)

pub record IsBrokenAt (file : List ℕ) (gate place : ℕ) : Type 0 where
  pub events : List Event
  pub read : AreRead file gate (map event_bytes events)
  pub behind : place ≡ gate + length (blocks (map event_bytes events))
  pub broken : IsBroken file place

abbrev pub RecoversTo : {S : Type 0} → Rules S → S → Option (List ℕ) → ℕ → Result (KeptState S) RecoverFault → Type 0
RecoversTo R core contents gate (Ok now) = IsRecovered R core contents gate now
RecoversTo R core contents gate (Err recover_faults.Disk) = ⊤
RecoversTo R core contents gate (Err (recover_faults.Damaged place)) = IfSome contents (λ file. IsBrokenAt file gate place)
RecoversTo R core contents gate (Err recover_faults.Want) = ⊤

abbrev pub is_recover_fault : {A : Type 0} → Result A RecoverFault → Bool
is_recover_fault (Ok now) = false
is_recover_fault (Err recover_faults.Disk) = true
is_recover_fault (Err (recover_faults.Damaged place)) = false
is_recover_fault (Err recover_faults.Want) = false

-- ---- one record

pub record IsAfter {S : Type 0} (R : Rules S) (core : S) (piece : List ℕ) (next : S) : Type 0 where
  pub event : Event
  pub spelled : event_bytes event ≡ piece
  pub state : next ≡ (R.step event core).state

abbrev pub IsStepped : {S : Type 0} → Rules S → S → ℕ → List ℕ → Result S RecoverFault → Type 0
IsStepped R core gate piece (Ok next) = IsAfter R core piece next
IsStepped R core gate piece (Err recover_faults.Disk) = ⊥
IsStepped R core gate piece (Err (recover_faults.Damaged place)) = (place ≡ gate) × ((event : Event) → event_bytes event ≡ piece → piece ≡ [])
IsStepped R core gate piece (Err recover_faults.Want) = ⊤

abbrev pub recover_fault_of : NextFault → RecoverFault
recover_fault_of next_faults.Disk = recover_faults.Disk
recover_fault_of (next_faults.Damaged gate) = recover_faults.Damaged gate
recover_fault_of next_faults.Want = recover_faults.Want
