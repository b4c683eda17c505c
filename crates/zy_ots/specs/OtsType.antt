-- The parameters of the LM-OTS types over SHA-256 with n = 32 (RFC 8554, section 4.1, table 1).
use Rattle.std.specs.Prelude.{ℕ, ◌+◌, ◌-◌, ◌*◌, ◌/◌, ◌^◌, ◌==◌, if◌then◌else◌, Option, Some, None}
use Rattle.zy_ots.specs.declared.ots_type.OtsType.{OtsType}
use Rattle.zy_ots.specs.declared.ots_type.OtsType.TheVariants.{W4, W8}

-- the number of the type
abbrev pub number_of : OtsType → ℕ
number_of W4 = 3
number_of W8 = 4

-- the type that has the number n
abbrev pub type_with : ℕ → Option OtsType
type_with n = if n == 3 then Some W4 else (if n == 4 then Some W8 else None)

-- w: the width of a coefficient, in bits
abbrev pub width_of : OtsType → ℕ
width_of W4 = 4
width_of W8 = 8

-- p: how many chains a key has, one for each coefficient of a message's digest and its checksum
abbrev pub chain_count_of : OtsType → ℕ
chain_count_of W4 = 67
chain_count_of W8 = 34

-- ls: by how many bits a checksum is shifted to the left
abbrev pub checksum_shift_of : OtsType → ℕ
checksum_shift_of W4 = 4
checksum_shift_of W8 = 0

-- 2^w - 1: the last place of a chain, and the greatest coefficient
abbrev pub last_place_of : OtsType → ℕ
last_place_of t = 2 ^ width_of t - 1

-- how many coefficients a digest of 32 bytes has
abbrev pub digest_coef_count_of : OtsType → ℕ
digest_coef_count_of t = 8 * 32 / width_of t

-- the length of a signature in bytes: its type, C, and a value for each chain (section 4.5)
abbrev pub signature_len_of : OtsType → ℕ
signature_len_of t = 4 + 32 * (chain_count_of t + 1)
