-- How a run ends: the verdict that words and files call for, and how far the answer and what is written are those of the verdict.
use Rattle.std.specs.Prelude.{◌≡◌, ◌≢◌, ◌⊎◌, ℕ, Bool, true, false, List, ◌++◌, Option, ⊤}
use Rattle.std.specs.Io.KnownBytes.{Keeps, Appends}
use Rattle.zy_edge.specs.Faults.{Rose}
use Rattle.zy_top_words.specs.declared.exit.Exit.{Exit}
use Rattle.zy_top_words.specs.declared.exit.Exit.TheVariants as exits

-- a refusal, which writes nothing, or what is written before a refusal, or a report, which is written whole, or what a link and a
-- clock decide, which is said elsewhere
pub data Verdict : Type 0 where
  Refused : Exit → Verdict
  Broke : List ℕ → Exit → Verdict
  Report : List ℕ → Verdict
  Hosted : Verdict

abbrev pub IsReport : Verdict → Type 0
IsReport (Refused exit) = ⊥
IsReport (Broke front exit) = ⊥
IsReport (Report report) = ⊤
IsReport Hosted = ⊥

-- the most bytes that a file may have
abbrev pub limit : ℕ
limit = 16777216

abbrev pub answer_to : Verdict → Exit
answer_to (Refused exit) = exit
answer_to (Broke front exit) = exit
answer_to (Report report) = exits.Done
answer_to Hosted = exits.Done

-- The answer is that of the verdict. Want of memory and a read fault may come in its place, and a write fault
-- where anything is to be written; of each fault another clause says when.
abbrev pub IsAnswer : Verdict → Exit → Type 0
IsAnswer verdict exits.Want = ⊤
IsAnswer verdict exits.ReadFault = ⊤
IsAnswer (Report report) exits.WriteFault = ⊤
IsAnswer (Broke front refusal) exits.WriteFault = ⊤
IsAnswer Hosted exit = ⊤
IsAnswer verdict exit = exit ≡ answer_to verdict

-- known bytes grew by the part of these that stands before the rest
pub record AppendsUpTo (old new : Option (List ℕ)) (bytes rest : List ℕ) : Type 0 where
  pub front : List ℕ
  pub whole : bytes ≡ front ++ rest
  pub taken : Appends old new front

-- known bytes grew by a front of these
abbrev pub AppendsFront : Option (List ℕ) → Option (List ℕ) → List ℕ → Type 0
AppendsFront old new bytes = (rest : List ℕ) × AppendsUpTo old new bytes rest

-- A refusal writes nothing. A report is written whole at Done, and what stands before a refusal is written whole at that
-- refusal; else a front of it.
abbrev pub IsWritten : Verdict → Exit → Option (List ℕ) → Option (List ℕ) → Type 0
IsWritten (Refused refusal) exit old new = Keeps old new
IsWritten Hosted exit old new = ⊤
IsWritten (Broke front refusal) (exits.Premise event what) old new = Appends old new front
IsWritten (Broke front refusal) exits.TurnsSpent old new = Appends old new front
IsWritten (Broke front refusal) exit old new = AppendsFront old new front
IsWritten (Report report) exits.Done old new = Appends old new report
IsWritten (Report report) exit old new = AppendsFront old new report

abbrev pub is_read_fault : Exit → Bool
is_read_fault exits.ReadFault = true
is_read_fault exit = false

abbrev pub is_write_fault : Exit → Bool
is_write_fault exits.WriteFault = true
is_write_fault exit = false

abbrev pub is_link_fault : Exit → Bool
is_link_fault exits.LinkFault = true
is_link_fault exit = false

-- what a command that names no file comes to: its answer, which is no read fault, and what a sink with this count of
-- faults before and after has taken; a report is written whole if the sink didn't fail and memory wasn't wanted
pub record IsOwnAnswer (own : Verdict) (exit : Exit) (old new : Option (List ℕ)) (before after : ℕ) : Type 0 where
  pub answer : IsAnswer own exit
  pub no_read : exit ≢ exits.ReadFault
  pub written : IsWritten own exit old new
  pub complete : IsReport own → ¬ Rose before after → (exit ≡ exits.Done) ⊎ (exit ≡ exits.Want)

abbrev pub is_disk_fault : Exit → Bool
is_disk_fault exits.DiskFault = true
is_disk_fault exit = false

-- what a disk and its journal alone come to
abbrev pub is_of_journal : Exit → Bool
is_of_journal exits.DiskFault = true
is_of_journal exits.NotJournal = true
is_of_journal (exits.Damaged gate) = true
is_of_journal exits.JournalFull = true
is_of_journal exit = false

abbrev pub is_usage : Exit → Bool
is_usage (exits.Usage word) = true
is_usage exit = false

-- an answer that comes of wrong words, of a link, of its turns or of a journal, and never of files and a sink alone
abbrev pub is_foreign : Exit → Bool
is_foreign (exits.Usage word) = true
is_foreign exits.LinkFault = true
is_foreign exits.TurnsSpent = true
is_foreign exits.DiskFault = true
is_foreign exits.NotJournal = true
is_foreign (exits.Damaged gate) = true
is_foreign exits.JournalFull = true
is_foreign exit = false

-- an answer before which nothing is written
abbrev pub is_refusal : Exit → Bool
is_refusal (exits.Usage word) = true
is_refusal (exits.Text line rule) = true
is_refusal (exits.Group field) = true
is_refusal exits.TooLong = true
is_refusal exits.ReadFault = true
is_refusal exits.LinkFault = true
is_refusal exits.DiskFault = true
is_refusal exits.NotJournal = true
is_refusal (exits.Damaged gate) = true
is_refusal exits.JournalFull = true
is_refusal exit = false

-- the status that the program ends with
abbrev pub status_of : Exit → ℕ
status_of exits.Done = 0
status_of (exits.Usage word) = 2
status_of exits.ReadFault = 3
status_of exits.WriteFault = 4
status_of (exits.Text line rule) = 5
status_of (exits.Group field) = 6
status_of (exits.Premise event what) = 7
status_of exits.LinkFault = 8
status_of exits.Want = 9
status_of exits.TurnsSpent = 10
status_of exits.TooLong = 11
status_of exits.DiskFault = 12
status_of exits.NotJournal = 13
status_of (exits.Damaged gate) = 14
status_of exits.JournalFull = 15
