-- What the program writes on standard error.
use Rattle.std.specs.Prelude.{ℕ, List, [], ◌++◌, codes, decimal, Option, Some, None}
use Rattle.zy_top_words.specs.declared.exit.Broken.{Broken}
use Rattle.zy_top_words.specs.declared.exit.Broken.TheVariants.{Forged, Clash}
use Rattle.zy_top_words.specs.declared.exit.Exit.{Exit}
use Rattle.zy_top_words.specs.declared.exit.Exit.TheVariants.{Done, Usage, ReadFault, WriteFault, Text, Group, Premise, LinkFault, Want, TurnsSpent, TooLong, DiskFault, NotJournal, Damaged, JournalFull}

abbrev pub broken_text : Broken → List ℕ
broken_text Forged = codes "forged"
broken_text Clash = codes "clash"

abbrev pub fault_text : Exit → List ℕ
fault_text Done = []
fault_text (Usage word) = codes "word " ++ decimal word
fault_text ReadFault = codes "read fault"
fault_text WriteFault = codes "write fault"
fault_text (Text line rule) = codes "line " ++ decimal line ++ codes " rule " ++ decimal rule
fault_text (Group field) = codes "group field " ++ decimal field
fault_text (Premise event what) = codes "premise " ++ broken_text what ++ codes " at event " ++ decimal event
fault_text LinkFault = codes "link fault"
fault_text Want = codes "out of memory"
fault_text TurnsSpent = codes "turns spent"
fault_text TooLong = codes "too long"
fault_text DiskFault = codes "disk fault"
fault_text NotJournal = codes "not a journal"
fault_text (Damaged gate) = codes "damaged at " ++ decimal gate
fault_text JournalFull = codes "journal full"

-- nothing where all went well, and else a line
abbrev pub error_line : Exit → Option (List ℕ)
error_line Done = None
error_line exit = Some (fault_text exit)
