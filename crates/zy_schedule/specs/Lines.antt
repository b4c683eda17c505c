-- The lines of a text, what they say, and the first that can't be read.
use Rattle.std.specs.Prelude.{◌≡◌, ℕ, suc, ◌==◌, Bool, true, not, if◌then◌else◌, List, [], ◌∷◌, filter, Result, Ok, Err, Vec, ⊤}
use Rattle.std.specs.declared.alloc.Global.{Global}
use Rattle.zy_schedule.specs.declared.fault.ScheduleFault.{ScheduleFault}
use Rattle.zy_schedule.specs.declared.fault.ScheduleFault.TheVariants as faults
use Rattle.zy_tuple.specs.declared.values.Op.{Op}
use Rattle.zy_tuple.specs.Reading.{op_read}
use Rattle.zy_tuple.specs.Texts.{op_text}
use Rattle.zy_tuple.specs.Values.{IsOp}

-- a character in front of the first line
abbrev pub onto_first : ℕ → List (List ℕ) → List (List ℕ)
onto_first c [] = (c ∷ []) ∷ []
onto_first c (line ∷ lines) = (c ∷ line) ∷ lines

-- a line ends at a line feed (10), which the last may lack
abbrev pub lines_of : List ℕ → List (List ℕ)
lines_of [] = []
lines_of (c ∷ text) = if c == 10 then [] ∷ lines_of text else onto_first c (lines_of text)

-- an empty line, or one that begins with `#` (35), says nothing
abbrev pub is_skipped : List ℕ → Bool
is_skipped [] = true
is_skipped (c ∷ line) = c == 35

abbrev pub is_said : List ℕ → Bool
is_said line = not (is_skipped line)

-- the lines that say something
abbrev pub said_lines : List ℕ → List (List ℕ)
said_lines text = filter is_said (lines_of text)

-- ---- the first fault

-- the first line that can't be read, and the rule of its first fault
pub record TextFault : Type 0 where
  pub line : ℕ
  pub rule : ℕ

-- what a line says before what the lines behind it say
abbrev pub before_others : {A : Type 0} → ℕ → Result A ℕ → Result (List A) TextFault → Result (List A) TextFault
before_others number (Err rule) others = Err (record { line = number; rule = rule })
before_others number (Ok item) (Err fault) = Err fault
before_others number (Ok item) (Ok items) = Ok (item ∷ items)

-- what lines say, read one by one, where the first of them has this number
abbrev pub items_from : {A : Type 0} → (List ℕ → Result A ℕ) → ℕ → List (List ℕ) → Result (List A) TextFault
items_from read number [] = Ok []
items_from read number (line ∷ lines) =
    if is_skipped line
    then items_from read (suc number) lines
    else before_others number (read line) (items_from read (suc number) lines)

-- all that a text says, or its first fault; skipped lines are counted too, from 1
abbrev pub text_of : {A : Type 0} → (List ℕ → Result A ℕ) → List ℕ → Result (List A) TextFault
text_of read text = items_from read 1 (lines_of text)

-- what a function returned is what the text says, unless memory ran out
abbrev pub IsTextRead : {A : Type 0} → Result (List A) TextFault → Result (Vec A Global) ScheduleFault → Type 0
IsTextRead read (Ok items) = read ≡ Ok items.items
IsTextRead read (Err (faults.Text line rule)) = read ≡ Err (record { line = line; rule = rule })
IsTextRead read (Err faults.Want) = ⊤

-- and so for the line with this number
abbrev pub IsLineRead : {A : Type 0} → ℕ → Result A ℕ → Result A ScheduleFault → Type 0
IsLineRead number read (Ok item) = read ≡ Ok item
IsLineRead number read (Err (faults.Text line rule)) = (line ≡ number) × (read ≡ Err rule)
IsLineRead number read (Err faults.Want) = ⊤

-- ---- scripts

-- an operation, and its text
abbrev pub IsOpLine : Op → List ℕ → Type 0
IsOpLine op line = IsOp op × (line ≡ op_text op)

-- the operations of a script, or its first fault
abbrev pub script_of : List ℕ → Result (List Op) TextFault
script_of text = text_of op_read text
