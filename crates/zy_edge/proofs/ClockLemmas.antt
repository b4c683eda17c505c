-- Moments don't fall, and a reading stands behind those before it.
use Rattle.std.proofs.Common.{◌≡◌, inl, inr, ℕ, zero, suc, ◌+◌, ◌-◌, ◌^◌, ◌<◌, ◌≤◌, true, nat_lt, nat_le, nat_eq, List, [], ◌∷◌, ◌++◌, length, map, min, Some, None, refl, sym, ap, subst, ◌∙◌, arith}
use Rattle.std.specs.Prelude.{slice_index}
use Rattle.std.specs.List.{range_with_len}
use Rattle.std.proofs.lemmas.List.FromFn.{map-range_with_len_more}
use Rattle.std.proofs.lemmas.Bool.{and_parts, ltb-true, leb-true, cases_lt, cases_eq, cond-true, cond-false, lt-ltb, le-ltb, eq-eqb, ne_eqb}
use Rattle.zy_edge.specs.Clock.{are_moments, moment_at, IsReading}
use Rattle.zy_edge.specs.Faults.{raised}
use Rattle.zy_edge.specs.Memory.{MemoryClock, latest_of, moments_read}

pub some_moment : (moments : List ℕ) → are_moments moments ≡ true → 1 ≤ length moments
some_moment [] are = absurd cc
some_moment (first ∷ later) are = omega arith

below : (moments : List ℕ) (i : ℕ) → are_moments moments ≡ true → i < length moments → slice_index moments i < 2 ^ 62
below [] i are within = absurd (omega arith)
below (last ∷ []) zero are within = ltb-true last (2 ^ 62) are
below (last ∷ []) (suc i) are within = absurd (omega arith)
below (first ∷ second ∷ later) zero are within =
    let parts = and_parts (nat_le first second) (are_moments (second ∷ later)) are in
    let next = below (second ∷ later) zero parts.1 (omega arith) in
    omega (arith, leb-true first second parts.0)
below (first ∷ second ∷ later) (suc i) are within = below (second ∷ later) i (and_parts (nat_le first second) (are_moments (second ∷ later)) are).1 (omega arith)

next_later : (moments : List ℕ) (i : ℕ) → are_moments moments ≡ true → suc i < length moments → slice_index moments i ≤ slice_index moments (suc i)
next_later [] i are within = absurd (omega arith)
next_later (last ∷ []) i are within = absurd (omega arith)
next_later (first ∷ second ∷ later) zero are within = leb-true first second (and_parts (nat_le first second) (are_moments (second ∷ later)) are).0
next_later (first ∷ second ∷ later) (suc i) are within = next_later (second ∷ later) i (and_parts (nat_le first second) (are_moments (second ∷ later)) are).1 (omega arith)

pub moment_below : (moments : List ℕ) (reading : ℕ) → are_moments moments ≡ true → moment_at moments reading < 2 ^ 62
moment_below moments reading are =
    let some = some_moment moments are in
    below moments (min reading (length moments - 1)) are (omega arith)

later_moment : (moments : List ℕ) (reading : ℕ) → are_moments moments ≡ true → moment_at moments reading ≤ moment_at moments (suc reading)
later_moment moments reading are =
    let some = some_moment moments are in
    elim (cases_lt (suc reading) (length moments)) [
      | inl within ↦
          let here : min reading (length moments - 1) ≡ reading = omega arith in
          let there : min (suc reading) (length moments - 1) ≡ suc reading = omega arith in
          let next = next_later moments reading are within in
          rw (here, there) next
      | inr past ↦
          let same : min reading (length moments - 1) ≡ min (suc reading) (length moments - 1) = omega arith in
          let e : moment_at moments reading ≡ moment_at moments (suc reading) = ap (slice_index moments) same in
          omega arith
    ]

-- a reading isn't before the last one
pub not_before : (clock : MemoryClock) → are_moments clock.moments ≡ true → latest_of clock ≤ moment_at clock.moments clock.readings
not_before clock are =
    elim (cases_eq clock.readings 0) [
      | inl none ↦
          let e : latest_of clock ≡ 0 = cond-true (nat_eq clock.readings 0) 0 (moment_at clock.moments (clock.readings - 1)) (eq-eqb _ _ none) in
          omega arith
      | inr some ↦
          let e : latest_of clock ≡ moment_at clock.moments (clock.readings - 1) = cond-false (nat_eq clock.readings 0) 0 (moment_at clock.moments (clock.readings - 1)) (ne_eqb _ _ some) in
          let next = later_moment clock.moments (clock.readings - 1) are in
          let one : suc (clock.readings - 1) ≡ clock.readings = omega arith in
          let there : moment_at clock.moments (suc (clock.readings - 1)) ≡ moment_at clock.moments clock.readings = ap (moment_at clock.moments) one in
          omega arith
    ]

abbrev pub read_once : MemoryClock → MemoryClock
read_once clock = record { moments = clock.moments; readings = raised clock.readings }

-- and is the last one from then on
pub is_latest : (clock : MemoryClock) → length clock.moments < 2 ^ 64 → clock.readings < 2 ^ 64 → latest_of (read_once clock) ≡ moment_at clock.moments clock.readings
is_latest clock fits range =
    let some : raised clock.readings ≡ 0 → ⊥ = λ e. omega arith in
    let same : min (raised clock.readings - 1) (length clock.moments - 1) ≡ min clock.readings (length clock.moments - 1) = omega arith in
    cond-false (nat_eq (raised clock.readings) 0) 0 (moment_at clock.moments (raised clock.readings - 1)) (ne_eqb _ _ some) ∙ ap (slice_index clock.moments) same

told : (clock : MemoryClock) → clock.readings < 2 ^ 64 - 1 → moments_read clock ≡ Some (map (moment_at clock.moments) (range_with_len 0 clock.readings))
told clock small = cond-true (nat_lt clock.readings (2 ^ 64 - 1)) (Some (map (moment_at clock.moments) (range_with_len 0 clock.readings))) None (lt-ltb _ _ small)

-- what was read, with one moment behind it
pub is_reading : (clock : MemoryClock) → clock.readings < 2 ^ 64 → IsReading (moment_at clock.moments clock.readings) (moments_read clock) (moments_read (read_once clock))
is_reading clock range =
    elim (cases_lt (raised clock.readings) (2 ^ 64 - 1)) [
      | inl small ↦
          let before : clock.readings < 2 ^ 64 - 1 = omega arith in
          let one : raised clock.readings ≡ clock.readings + 1 = omega arith in
          let f : ℕ → ℕ = moment_at clock.moments in
          let after : moments_read (read_once clock) ≡ Some (map f (range_with_len 0 clock.readings) ++ f clock.readings ∷ []) =
          told (read_once clock) small ∙ ap (λ k. Some (map f (range_with_len 0 k))) one ∙ ap Some (map-range_with_len_more f 0 clock.readings clock.readings (omega arith)) in
          subst (IsReading (f clock.readings) (moments_read clock)) (sym after) (map f (range_with_len 0 clock.readings), told clock before, refl)
      | inr large ↦
          let none : moments_read (read_once clock) ≡ None = cond-false (nat_lt (raised clock.readings) (2 ^ 64 - 1)) (Some (map (moment_at clock.moments) (range_with_len 0 (raised clock.readings)))) None (le-ltb _ _ large) in
          subst (IsReading (moment_at clock.moments clock.readings) (moments_read clock)) (sym none) tt
    ]

-- the same of a clock that is seen, with what was read and counted
pub reading_told : (inside now : MemoryClock) (moment after : ℕ) → inside.readings < 2 ^ 64 → inside ≡ now → moment ≡ moment_at inside.moments inside.readings → after ≡ raised inside.readings
    → IsReading moment (moments_read now) (moments_read (record { moments = inside.moments; readings = after }))
reading_told inside now moment after range seen is counted =
    let told = is_reading inside range in
    let first = subst (λ (n : ℕ). IsReading n (moments_read inside) (moments_read (read_once inside))) (sym is) told in
    let second = subst (λ (k : MemoryClock). IsReading moment (moments_read k) (moments_read (read_once inside))) seen first in
    subst (λ (n : ℕ). IsReading moment (moments_read now) (moments_read (record { moments = inside.moments; readings = n }))) (sym counted) second
