-- Files that are read and judged one after the other.
use Rattle.std.proofs.Common.{◌≡◌, ℕ, ◌<◌, ◌≤◌, List, length, Option, Some, None, IfSome, option_map, Result, Ok, Err, Vec, refl, ap, ◌∙◌}
use Rattle.std.specs.declared.alloc.Global.{Global}
use Rattle.std.proofs.lemmas.Bool.{le-ltb, lt-ltb}
use Rattle.toml.specs.Data.{Members}
use Rattle.zy_group.specs.Reading.{IsRead, toml_of}
use Rattle.zy_group.specs.declared.fault.GroupFault.{GroupFault}
use Rattle.zy_group.specs.declared.fault.GroupFault.TheVariants as faults
use Rattle.zy_top_words.specs.Calls.{IsFileRead, exit_of_group_fault}
use Rattle.zy_top_words.specs.Ends.{limit}
use Rattle.zy_top_words.specs.declared.exit.Exit.{Exit}
use Rattle.zy_top_words.specs.declared.exit.Exit.TheVariants as exits
use Rattle.zy_top_hosting.specs.Calls.{IsJudged}
use Rattle.zy_top_hosting.specs.Files.{and_then, by_field, judged}

-- ---- one file

module _ {A : Type 0} (fields : Option Members → Result A ℕ) where
  long : (text : List ℕ) → limit < length text → judged fields text ≡ Err exits.TooLong
  long text above = rw (lt-ltb limit (length text) above) refl

  short : (text : List ℕ) → length text ≤ limit → judged fields text ≡ by_field (fields (toml_of text))
  short text within = rw (le-ltb limit (length text) within) refl

  unread : (text : List ℕ) (exit : Exit) → IsFileRead (Some text) (Err exit) → IsJudged (judged fields text) (Err exit)
  unread text exits.TooLong read = long text read
  unread text exits.ReadFault read = tt
  unread text exits.Want read = tt
  unread text exits.Done read = absurd read
  unread text (exits.Usage word) read = absurd read
  unread text exits.LinkFault read = absurd read
  unread text exits.TurnsSpent read = absurd read
  unread text exits.WriteFault read = absurd read
  unread text (exits.Text line rule) read = absurd read
  unread text (exits.Group field) read = absurd read
  unread text (exits.Premise event what) read = absurd read
  unread text exits.DiskFault read = absurd read
  unread text exits.NotJournal read = absurd read
  unread text (exits.Damaged gate) read = absurd read
  unread text exits.JournalFull read = absurd read

  pub file_unread : {H : Type 0} (told : Option H) (content : H → List ℕ) (exit : Exit) → IsFileRead (option_map content told) (Err exit)
      → IfSome told (λ held. IsJudged (judged fields (content held)) (Err exit))
  file_unread None content exit read = tt
  file_unread (Some held) content exit read = unread (content held) exit read

  refused : (text : List ℕ) (fault : GroupFault) → length text ≤ limit → IsRead (fields (toml_of text)) (Err fault) → IsJudged (judged fields text) (Err (exit_of_group_fault fault))
  refused text (faults.Field number) within read = short text within ∙ ap by_field read
  refused text faults.Want within read = tt

  pub file_refused : {H : Type 0} (told : Option H) (content : H → List ℕ) (text : Vec ℕ Global) (fault : GroupFault) → IsFileRead (option_map content told) (Ok text)
      → IsRead (fields (toml_of text.items)) (Err fault) → IfSome told (λ held. IsJudged (judged fields (content held)) (Err (exit_of_group_fault fault)))
  file_refused None content text fault file read = tt
  file_refused (Some held) content text fault file read = rw (← file.0) (refused text.items fault file.1 read)

  pub file_read : {H : Type 0} (told : Option H) (content : H → List ℕ) (text : Vec ℕ Global) (x : A) → IsFileRead (option_map content told) (Ok text)
      → IsRead (fields (toml_of text.items)) (Ok x) → IfSome told (λ held. IsJudged (judged fields (content held)) (Ok x))
  file_read None content text x file read = tt
  file_read (Some held) content text x file read = rw (← file.0) (short text.items file.1 ∙ ap by_field read)

-- its text is the one that is told
pub file_text : {H : Type 0} (told : Option H) (content : H → List ℕ) (text : Vec ℕ Global) → IsFileRead (option_map content told) (Ok text) → IfSome told (λ held. text.items ≡ content held)
file_text None content text file = tt
file_text (Some held) content text file = file.0

-- ---- one file behind another

module _ {A B : Type 0} where
  -- where the first is refused the second isn't read
  pub first_refused : (first : Result A Exit) (next : A → Result B Exit) (exit : Exit) → IsJudged first (Err exit) → IsJudged (and_then first next) (Err exit)
  first_refused first next exits.Want judged = tt
  first_refused first next exits.ReadFault judged = tt
  first_refused first next exits.Done judged = ap (λ r. and_then r next) judged
  first_refused first next (exits.Usage word) judged = ap (λ r. and_then r next) judged
  first_refused first next exits.LinkFault judged = ap (λ r. and_then r next) judged
  first_refused first next exits.TurnsSpent judged = ap (λ r. and_then r next) judged
  first_refused first next exits.WriteFault judged = ap (λ r. and_then r next) judged
  first_refused first next (exits.Text line rule) judged = ap (λ r. and_then r next) judged
  first_refused first next (exits.Group field) judged = ap (λ r. and_then r next) judged
  first_refused first next (exits.Premise event what) judged = ap (λ r. and_then r next) judged
  first_refused first next exits.TooLong judged = ap (λ r. and_then r next) judged
  first_refused first next exits.DiskFault judged = ap (λ r. and_then r next) judged
  first_refused first next exits.NotJournal judged = ap (λ r. and_then r next) judged
  first_refused first next (exits.Damaged gate) judged = ap (λ r. and_then r next) judged
  first_refused first next exits.JournalFull judged = ap (λ r. and_then r next) judged

  pub then_next : (first : Result A Exit) (next : A → Result B Exit) (x : A) (r : Result B Exit) → IsJudged first (Ok x) → IsJudged (next x) r → IsJudged (and_then first next) r
  then_next first next x r judged after = rw judged after
