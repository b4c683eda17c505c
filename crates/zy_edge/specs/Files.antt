-- What the calls of files do to what is held and to what is left to be read.
use Rattle.std.specs.Prelude.{◌≡◌, ℕ, ◌≤◌, Bool, true, false, Option, Some, IfSome, List, [], length, take, nat_eq, find}
use Rattle.std.specs.Option.{option_map_or}
use Rattle.std.specs.Io.KnownBytes.{Keeps, Consumes, IsAtEnd}
use Rattle.std.specs.Cmp.Lexicographic.{pointwise}
use Rattle.zy_edge.specs.declared.files.Chosen as chosen
use Rattle.zy_edge.specs.declared.files.Read as read

-- names and contents
abbrev pub Held : Type 0
Held = List (List ℕ × List ℕ)

-- the first file with the name
abbrev pub file_named : Held → List ℕ → Option (List ℕ × List ℕ)
file_named files name = find (λ file. pointwise nat_eq file.0 name) files

-- its bytes, or none where there is no such file
abbrev pub content_of : Held → List ℕ → List ℕ
content_of files name = option_map_or (λ file. file.1) (file_named files name) []

abbrev pub select_failed : chosen.Chosen → Bool
select_failed chosen.TheVariants.Chosen = false
select_failed chosen.TheVariants.Failed = true

abbrev pub read_failed : read.Read → Bool
read_failed (read.TheVariants.Got _) = false
read_failed read.TheVariants.End = false
read_failed read.TheVariants.Failed = true

-- a file that was chosen is read from its first byte, and after a failure the one from before is read on
abbrev pub IsSelected : chosen.Chosen → Option Held → List ℕ → Option (List ℕ) → Option (List ℕ) → Type 0
IsSelected chosen.TheVariants.Chosen held name before after = IfSome held (λ files. after ≡ Some (content_of files name))
IsSelected chosen.TheVariants.Failed held name before after = Keeps before after

-- a read gives at least one byte of those that are left, or there is none; a failure leaves them
abbrev pub IsRead : read.Read → List ℕ → Option (List ℕ) → Option (List ℕ) → Type 0
IsRead (read.TheVariants.Got k) buf before after = (1 ≤ k) × (k ≤ length buf) × Consumes before after (take k buf)
IsRead read.TheVariants.End buf before after = IsAtEnd before × Keeps before after
IsRead read.TheVariants.Failed buf before after = Keeps before after
