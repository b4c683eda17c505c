-- Numbers and coefficients in a string (RFC 8554, sections 3.1.1 and 3.1.3) and the checksum of a digest (section 4.4).
use Rattle.std.specs.Prelude.{ℕ, zero, suc, ◌+◌, ◌-◌, ◌*◌, ◌/◌, ◌%◌, ◌^◌, List, take, drop, bit_and, slice_index}
use Rattle.std.specs.Int.{w32, from_be_bytes}
use Rattle.zy_ots.specs.declared.ots_type.OtsType.{OtsType}
use Rattle.zy_ots.specs.OtsType.{width_of, checksum_shift_of, last_place_of, digest_coef_count_of}

-- strTou32 of the four bytes of s from place i on (3.1.1)
abbrev pub number_at : List ℕ → ℕ → ℕ
number_at s i = from_be_bytes w32 (take 4 (drop i s))

-- coef(S, i, w): the element at place i of the string s, read as elements of w bits each, where w
-- divides 8 (3.1.3)
abbrev pub coef_of : List ℕ → ℕ → ℕ → ℕ
coef_of s i w = bit_and (2 ^ w - 1) (slice_index s (i * w / 8) / 2 ^ (8 - (w * (i % (8 / w)) + w)))

-- how far the first n coefficients of s are from the greatest, all together (4.4, the loop)
unfoldable pub complement_sum : OtsType → List ℕ → ℕ → ℕ
complement_sum t s zero = 0
complement_sum t s (suc n) = complement_sum t s n + (last_place_of t - coef_of s n (width_of t))

-- Cksm(S), for a digest s (4.4)
abbrev pub checksum_of : OtsType → List ℕ → ℕ
checksum_of t s = complement_sum t s (digest_coef_count_of t) * 2 ^ checksum_shift_of t
