-- The LMS types over SHA-256 with m = 32 (RFC 8554, section 5.1, table 2), by their heights.
use Rattle.std.specs.Prelude.{ℕ, ◌*◌, ◌^◌, ◌==◌, if◌then◌else◌, Option, Some, None}
use Rattle.zy_lms.specs.declared.height.Height.{Height}
use Rattle.zy_lms.specs.declared.height.Height.TheVariants.{H5, H10}

-- the number of the type
abbrev pub type_number_of : Height → ℕ
type_number_of H5 = 5
type_number_of H10 = 6

-- the height whose type has the number n
abbrev pub height_with : ℕ → Option Height
height_with n = if n == 5 then Some H5 else (if n == 6 then Some H10 else None)

-- h: a tree of this height has 2^h leaves
abbrev pub levels_of : Height → ℕ
levels_of H5 = 5
levels_of H10 = 10

-- how many signatures two levels of such trees give: 2^h lower keys of 2^h leaves each
abbrev pub signatures_of : Height → ℕ
signatures_of height = 2 ^ (2 * levels_of height)
