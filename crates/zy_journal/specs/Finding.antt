-- What stands at a gate, before a record is read.
use Rattle.std.specs.Prelude.{ℕ, ◌+◌, ◌^◌, ◌<◌, ◌≤◌, Bool, true, false, List, ◌∷◌, length, Result, Ok, Err}
use Rattle.std.specs.Int.{w32, to_be_bytes}
use Rattle.zy_journal.specs.Disk.{StandsAt}
use Rattle.zy_journal.specs.Journal.{IsShut, IsDamaged}
use Rattle.zy_journal.specs.declared.reading.Found.{Found}
use Rattle.zy_journal.specs.declared.reading.Found.TheVariants as found
use Rattle.zy_journal.specs.declared.reading.NextFault.{NextFault}
use Rattle.zy_journal.specs.declared.reading.NextFault.TheVariants as fault

-- an open gate and a length, and the next gate lies in the file
pub record HasLength (file : List ℕ) (gate n : ℕ) : Type 0 where
  pub least : 1 ≤ n
  pub most : n ≤ 8388609
  pub stands : StandsAt (1 ∷ to_be_bytes w32 n) gate file
  pub inside : gate + 5 + n < length file

abbrev pub IsFound : List ℕ → ℕ → Found → Type 0
IsFound file gate found.Failed = Unit {0}
IsFound file gate found.Shut = IsShut file gate
IsFound file gate found.Damaged = IsDamaged file gate
IsFound file gate (found.Record n) = HasLength file gate n

-- the place of the next gate is a number of 64 bits, also where no file is told
abbrev pub HasRoom : ℕ → Found → Type 0
HasRoom gate found.Failed = Unit {0}
HasRoom gate found.Shut = Unit {0}
HasRoom gate found.Damaged = Unit {0}
HasRoom gate (found.Record n) = gate + 5 + n < 2 ^ 64

abbrev pub find_failed : Found → Bool
find_failed found.Failed = true
find_failed found.Shut = false
find_failed found.Damaged = false
find_failed (found.Record _) = false

-- the faults of reading a record whose length is known
abbrev pub IsReadFault : NextFault → Type 0
IsReadFault fault.Disk = Unit {0}
IsReadFault (fault.Damaged _) = ⊥
IsReadFault fault.Want = Unit {0}

abbrev pub piece_failed : {A : Type 0} → Result A NextFault → Bool
piece_failed (Ok _) = false
piece_failed (Err fault.Disk) = true
piece_failed (Err (fault.Damaged _)) = false
piece_failed (Err fault.Want) = false
