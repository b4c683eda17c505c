-- A journal: a list of records in a file, each behind a gate.
use Rattle.std.specs.Prelude.{◌≡◌, ◌≢◌, ◌⊎◌, ℕ, ◌+◌, ◌^◌, ◌<◌, ◌≤◌, ◌==◌, ◌||◌, not, nat_lt, Bool, true, false, if◌then◌else◌, Option, IfSome, List, [], ◌∷◌, ◌++◌, length, drop, Result, Ok, Err}
use Rattle.std.specs.Int.{w32, to_be_bytes}
use Rattle.std.specs.List.{AllByRecursion}
use Rattle.zy_base.specs.declared.ids.Digest.{Digest}
use Rattle.zy_journal.specs.Disk.{StandsAt, Only}
use Rattle.zy_journal.specs.declared.journal.AppendFault.{AppendFault}
use Rattle.zy_journal.specs.declared.journal.AppendFault.TheVariants as append_fault
use Rattle.zy_journal.specs.declared.reading.Next.{Next}
use Rattle.zy_journal.specs.declared.reading.Next.TheVariants as next_record
use Rattle.zy_journal.specs.declared.reading.NextFault.{NextFault}
use Rattle.zy_journal.specs.declared.reading.NextFault.TheVariants as next_fault
use Rattle.zy_journal.specs.declared.reading.OpenFault.{OpenFault}
use Rattle.zy_journal.specs.declared.reading.OpenFault.TheVariants as open_fault

-- ---- what an image stands for

-- a record's bytes: at least one, and at most one more than twice a frame's most
abbrev pub IsPiece : List ℕ → Type 0
IsPiece piece = (1 ≤ length piece) × (length piece ≤ 8388609)

-- an open gate, the length and the record
abbrev pub block_of : List ℕ → List ℕ
block_of piece = 1 ∷ (to_be_bytes w32 (length piece) ++ piece)

abbrev pub blocks : List (List ℕ) → List ℕ
blocks [] = []
blocks (piece ∷ pieces) = block_of piece ++ blocks pieces

-- the mark of such a file, and whose journal it is
abbrev pub mark_of : Digest → List ℕ
mark_of identity = 90 ∷ 89 ∷ 74 ∷ 76 ∷ 0 ∷ 0 ∷ 0 ∷ 1 ∷ identity.0

abbrev pub head_of : Digest → List ℕ
head_of identity = 1 ∷ mark_of identity

-- fewer than 42 bytes, or a first byte that isn't 1
abbrev pub is_blank : List ℕ → Bool
is_blank [] = true
is_blank (first ∷ rest) = not (first == 1) || nat_lt (length rest) 41

-- the head of this journal, the records' blocks, and a gate that is shut; whatever stands behind that
pub record Holds (identity : Digest) (image : List ℕ) (pieces : List (List ℕ)) : Type 0 where
  pub gate : ℕ
  pub behind : List ℕ
  pub spelled : image ≡ head_of identity ++ (blocks pieces ++ gate ∷ behind)
  pub shut : gate ≢ 1
  pub fits : AllByRecursion IsPiece pieces
  pub size : length identity.0 ≡ 32

-- a blank image stands for no record
abbrev pub StandsFor : Digest → List ℕ → List (List ℕ) → Type 0
StandsFor identity image pieces = ((is_blank image ≡ true) × (pieces ≡ [])) ⊎ Holds identity image pieces

-- ---- what a call leaves of what a file stands for

-- the same records, whatever the file stands for
abbrev pub Keeps : Digest → List ℕ → List ℕ → Type 0
Keeps identity file image = (pieces : List (List ℕ)) → StandsFor identity file pieces → StandsFor identity image pieces

-- the same records and this one behind them
abbrev pub Has : List ℕ → List ℕ → List ℕ → Type 0
Has file piece image = (identity : Digest) (pieces : List (List ℕ)) → StandsFor identity file pieces → StandsFor identity image (pieces ++ piece ∷ [])

-- the same records, with this one behind them or without it
abbrev pub HasOrNot : List ℕ → List ℕ → List ℕ → Type 0
HasOrNot file piece image = (identity : Digest) (pieces : List (List ℕ)) → StandsFor identity file pieces → StandsFor identity image pieces ⊎ StandsFor identity image (pieces ++ piece ∷ [])

-- ---- gates

-- a gate of the file: a head and whole blocks stand before it
pub record IsGateAt (file : List ℕ) (gate : ℕ) (before : List (List ℕ)) (behind : List ℕ) : Type 0 where
  pub head : List ℕ
  pub long : length head ≡ 41
  pub spelled : file ≡ head ++ (blocks before ++ behind)
  pub used : is_blank file ≡ false
  pub fits : AllByRecursion IsPiece before
  pub place : gate ≡ 41 + length (blocks before)

-- it stands inside the file
pub record IsGate (file : List ℕ) (gate : ℕ) : Type 0 where
  pub before : List (List ℕ)
  pub behind : List ℕ
  pub stands : IsGateAt file gate before behind
  pub inside : 1 ≤ length behind

-- it is shut, and ends the list
pub record IsEnd (file : List ℕ) (gate : ℕ) : Type 0 where
  pub before : List (List ℕ)
  pub shut : ℕ
  pub more : List ℕ
  pub stands : IsGateAt file gate before (shut ∷ more)
  pub is_shut : shut ≢ 1

-- of the contents of a disk, where they are told: a crash leaves them and nothing else
abbrev pub IsAtGate : Option (List ℕ) → (List ℕ → Type 0) → ℕ → Type 0
IsAtGate contents images gate = IfSome contents (λ file. images file × Only file images × IsGate file gate)

abbrev pub IsAtEnd : Option (List ℕ) → (List ℕ → Type 0) → ℕ → Type 0
IsAtEnd contents images gate = IfSome contents (λ file. images file × Only file images × IsEnd file gate)

-- ---- calls

-- a journal's file after it was opened: a blank one has the head and a gate that is shut
abbrev pub opened : Digest → List ℕ → List ℕ
opened identity file = if is_blank file then head_of identity ++ (0 ∷ drop 42 file) else file

-- bytes 1 to 40 say whose journal it is
abbrev pub IsMarked : Digest → List ℕ → Type 0
IsMarked identity file = StandsAt (mark_of identity) 1 file

-- a file that is blank or this journal is opened, and exactly another one isn't
abbrev pub Opens : Digest → List ℕ → Result ℕ OpenFault → Type 0
Opens identity file (Ok gate) = (is_blank file ≡ false) → IsMarked identity file
Opens identity file (Err open_fault.Disk) = Unit {0}
Opens identity file (Err open_fault.NotJournal) = (is_blank file ≡ false) × (IsMarked identity file → ⊥)

-- the record behind an open gate, of which the next gate lies in the file
pub record HasRecord (file : List ℕ) (gate : ℕ) (piece : List ℕ) : Type 0 where
  pub fits : IsPiece piece
  pub stands : StandsAt (block_of piece) gate file
  pub inside : gate + 5 + length piece < length file

-- an open gate with no record behind it
abbrev pub IsDamaged : List ℕ → ℕ → Type 0
IsDamaged file gate = StandsAt (1 ∷ []) gate file × ((piece : List ℕ) → HasRecord file gate piece → ⊥)

-- a gate that is shut
abbrev pub IsShut : List ℕ → ℕ → Type 0
IsShut file gate = (shut : ℕ) × (shut ≢ 1) × StandsAt (shut ∷ []) gate file

-- the next gate would lie above 1,073,741,824
abbrev pub IsFull : ℕ → List ℕ → Type 0
IsFull gate piece = 2 ^ 30 < gate + 5 + length piece

abbrev pub is_full_answer : Result ℕ AppendFault → Bool
is_full_answer (Ok _) = false
is_full_answer (Err append_fault.Disk) = false
is_full_answer (Err (append_fault.Full _)) = true
is_full_answer (Err (append_fault.Want _)) = false

abbrev pub append_failed : Result ℕ AppendFault → Bool
append_failed (Ok _) = false
append_failed (Err append_fault.Disk) = true
append_failed (Err (append_fault.Full _)) = false
append_failed (Err (append_fault.Want _)) = false

-- an answer that hands the journal back leaves it and the disk as they were
abbrev pub HandsBack : {D : Type 0} → Result ℕ AppendFault → ℕ → D → D → Type 0
HandsBack (Ok _) gate before after = Unit {0}
HandsBack (Err append_fault.Disk) gate before after = Unit {0}
HandsBack (Err (append_fault.Full journal)) gate before after = (journal ≡ gate) × (after ≡ before)
HandsBack (Err (append_fault.Want journal)) gate before after = (journal ≡ gate) × (after ≡ before)

abbrev pub open_failed : Result ℕ OpenFault → Bool
open_failed (Ok _) = false
open_failed (Err open_fault.Disk) = true
open_failed (Err open_fault.NotJournal) = false

abbrev pub next_failed : Result Next NextFault → Bool
next_failed (Ok _) = false
next_failed (Err next_fault.Disk) = true
next_failed (Err (next_fault.Damaged _)) = false
next_failed (Err next_fault.Want) = false

-- what stands at a gate: a record, the end, or neither
abbrev pub IsNext : List ℕ → ℕ → Result Next NextFault → Type 0
IsNext file gate (Ok (next_record.Record piece next)) = HasRecord file gate piece
IsNext file gate (Ok (next_record.End journal)) = IsShut file gate
IsNext file gate (Err next_fault.Disk) = Unit {0}
IsNext file gate (Err (next_fault.Damaged _)) = IsDamaged file gate
IsNext file gate (Err next_fault.Want) = Unit {0}

-- where it stands: the next gate is behind the record, and the others are this one
abbrev pub IsPlaced : ℕ → Result Next NextFault → Type 0
IsPlaced gate (Ok (next_record.Record piece next)) = (next ≡ gate + 5 + length piece) × (next < 2 ^ 64)
IsPlaced gate (Ok (next_record.End journal)) = journal ≡ gate
IsPlaced gate (Err next_fault.Disk) = Unit {0}
IsPlaced gate (Err (next_fault.Damaged place)) = place ≡ gate
IsPlaced gate (Err next_fault.Want) = Unit {0}

-- and that the reading or the journal that is given stands at a gate
abbrev pub StandsAtGate : Option (List ℕ) → (List ℕ → Type 0) → Result Next NextFault → Type 0
StandsAtGate contents images (Ok (next_record.Record piece next)) = IsAtGate contents images next
StandsAtGate contents images (Ok (next_record.End journal)) = IsAtEnd contents images journal
StandsAtGate contents images (Err _) = Unit {0}
