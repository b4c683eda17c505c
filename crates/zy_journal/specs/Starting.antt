-- How the file begins that is to hold a journal.
use Rattle.std.specs.Prelude.{◌≡◌, ◌≢◌, ℕ, ◌≤◌, Bool, true, false, List, ◌∷◌, length, Result, Ok, Err}
use Rattle.zy_base.specs.declared.ids.Digest.{Digest}
use Rattle.zy_journal.specs.Journal.{is_blank, IsMarked}
use Rattle.zy_journal.specs.declared.disk.Did as did
use Rattle.zy_journal.specs.declared.reading.OpenFault.{OpenFault}
use Rattle.zy_journal.specs.declared.reading.OpenFault.TheVariants as open_fault
use Rattle.zy_journal.specs.declared.making.Start.{Start}
use Rattle.zy_journal.specs.declared.making.Start.TheVariants.{Failed, Mine, Other, Shut, Short}

abbrev pub IsShutAtFirst : List ℕ → Type 0
IsShutAtFirst file = (first : ℕ) × (rest : List ℕ) × (file ≡ first ∷ rest) × (first ≢ 1)

abbrev pub IsShort : List ℕ → Type 0
IsShort file = (is_blank file ≡ true) × (length file ≤ 41)

abbrev pub IsStart : Digest → List ℕ → Start → Type 0
IsStart identity file Failed = Unit {0}
IsStart identity file Mine = (is_blank file ≡ false) × IsMarked identity file × (length identity.0 ≡ 32)
IsStart identity file Other = (is_blank file ≡ false) × (IsMarked identity file → ⊥)
IsStart identity file Shut = IsShutAtFirst file
IsStart identity file Short = IsShort file

abbrev pub start_failed : Start → Bool
start_failed Failed = true
start_failed Mine = false
start_failed Other = false
start_failed Shut = false
start_failed Short = false

-- a journal is begun exactly where the disk did so
abbrev pub IsBegun : did.Did → Result ℕ OpenFault → Type 0
IsBegun did.TheVariants.Did (Ok gate) = Unit {0}
IsBegun did.TheVariants.Did (Err fault) = ⊥
IsBegun did.TheVariants.Failed (Ok gate) = ⊥
IsBegun did.TheVariants.Failed (Err open_fault.Disk) = Unit {0}
IsBegun did.TheVariants.Failed (Err open_fault.NotJournal) = ⊥
