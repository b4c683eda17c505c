-- How the fields of a file are judged: in their order, up to the first that fails.
use Rattle.std.specs.Prelude.{◌≡◌, ℕ, if◌then◌else◌, List, Option, Some, None, Result, Ok, Err, ⊤}
use Rattle.std.specs.Str.{is_utf8}
use Rattle.toml.specs.Data.{Members}
use Rattle.toml.specs.Parse.{parse_document}
use Rattle.zy_group.specs.declared.fault.GroupFault as faults

-- the field with this number, and what stands behind it; where it fails, its number
abbrev pub field : {A B : Type 0} → ℕ → Option A → (A → Result B ℕ) → Result B ℕ
field number None behind = Err number
field number (Some value) behind = behind value

-- what was read, or the first field that fails, or want of memory
abbrev pub IsRead : {A : Type 0} → Result A ℕ → Result A faults.GroupFault → Type 0
IsRead read (Ok group) = read ≡ Ok group
IsRead read (Err (faults.TheVariants.Field number)) = read ≡ Err number
IsRead read (Err faults.TheVariants.Want) = ⊤

-- the text, whose field has this number, fails, or memory was wanted
abbrev pub IsNoText : {A : Type 0} → ℕ → Result A faults.GroupFault → Type 0
IsNoText text (Ok group) = ⊥
IsNoText text (Err (faults.TheVariants.Field number)) = number ≡ text
IsNoText text (Err faults.TheVariants.Want) = ⊤

-- text that isn't UTF-8 is no TOML
abbrev pub toml_of : List ℕ → Option Members
toml_of text = if is_utf8 text then parse_document text else None
