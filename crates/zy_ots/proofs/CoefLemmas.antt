-- The sums of a checksum stay within 16 bits.
use Rattle.std.proofs.Common.{arith, zero, suc, ◌≡◌, ◌-◌, ◌≤◌, ◌<◌, ◌++◌, ◌∷◌, [], length, ℕ, ◌+◌, ◌*◌, List, drop, refl, add-one}
use Rattle.std.proofs.lemmas.List.{append-nil, take_at, drop_all, length-append, length-drop}
use borrow.Rule.Slice.PartMut.{put_mid}
use Rattle.zy_ots.specs.declared.ots_type.OtsType.{OtsType}
use Rattle.zy_ots.specs.declared.ots_type.OtsType.TheVariants.{W4, W8}
use Rattle.zy_ots.specs.OtsType.{width_of, last_place_of, digest_coef_count_of}
use Rattle.zy_ots.specs.Coef.{coef_of, complement_sum, checksum_of}

pub complement_none : (t : OtsType) (s : List ℕ) → complement_sum t s 0 ≡ 0
unfolding complement_sum
complement_none t s = refl

pub complement_more : (t : OtsType) (s : List ℕ) (n : ℕ)
    → complement_sum t s (n + 1) ≡ complement_sum t s n + (last_place_of t - coef_of s n (width_of t))
unfolding complement_sum
complement_more t s n = rw (add-one n) refl

-- each element lacks at most the greatest
complement_bound : (t : OtsType) (s : List ℕ) (n : ℕ) → complement_sum t s n ≤ last_place_of t * n
unfolding complement_sum
complement_bound W4 s zero = omega arith
complement_bound W4 s (suc n) = omega (arith, complement_bound W4 s n)
complement_bound W8 s zero = omega arith
complement_bound W8 s (suc n) = omega (arith, complement_bound W8 s n)

pub complement_fits : (t : OtsType) (s : List ℕ) (n : ℕ) → n < digest_coef_count_of t
    → complement_sum t s n + (last_place_of t - coef_of s n (width_of t)) < 65536
complement_fits W4 s n below = omega (arith, complement_bound W4 s n)
complement_fits W8 s n below = omega (arith, complement_bound W8 s n)

pub checksum_fits : (t : OtsType) (s : List ℕ) → checksum_of t s < 65536
checksum_fits W4 s = omega (arith, complement_bound W4 s 64)
checksum_fits W8 s = omega (arith, complement_bound W8 s 32)

-- a digest, and two bytes written behind it
pub with_two : (digest two : List ℕ) → length digest ≡ 32 → length two ≡ 2
    → put_mid 32 2 (digest ++ 0 ∷ 0 ∷ []) two ≡ digest ++ two
with_two digest two whole pair =
    let front = take_at digest (0 ∷ 0 ∷ []) 32 whole in
    let rest : drop 2 (drop 32 (digest ++ 0 ∷ 0 ∷ [])) ≡ [] =
    drop_all 2 (drop 32 (digest ++ 0 ∷ 0 ∷ [])) (omega (arith, length-drop 32 (digest ++ 0 ∷ 0 ∷ []), length-append digest (0 ∷ 0 ∷ []))) in
    rw (front, rest, append-nil two) refl
