-- Which places are checkpoints between two.
use Rattle.std.proofs.Common.{◌≡◌, ℕ, zero, suc, ◌+◌, ◌-◌, ◌<◌, ◌≤◌, inl, inr, Bool, true, List, [], ◌∷◌, length, get_or, refl, ap, ◌∙◌, arith}
use Rattle.std.specs.Prelude.{◌%◌, ◌↔◌, nat_eq, All, Contains, IsSome, filter, slice_get}
use Rattle.std.specs.List.{range_with_len}
use Rattle.std.proofs.lemmas.Bool.{cases_Bool, eqb-true, eq-eqb, lt-leb}
use Rattle.std.proofs.lemmas.List.Elements.{All-contains, All-filter, filter_passes}
use Rattle.std.proofs.lemmas.List.FromFn.{length-range_with_len, get_or-range_with_len}
use Rattle.zy_chain.specs.Stretch.{Stretch, end_of, entry_in}
use Rattle.zy_exec.specs.Kept.{Kept, stretch_of, last_place}
use Rattle.zy_table.specs.Adopting.{taken_over, checkpoints_between}
use Rattle.zy_replica_adopt.specs.Meeting.{Meets}
use Rattle.zy_replica_adopt.proofs.TakenLemmas.{taken_end}

-- what passes the test is kept
passed : {X : Type 0} (p : X → Bool) (xs : List X) (x : X) (i : ℕ) → i < length xs → get_or xs i x ≡ x → p x ≡ true → Contains (filter p xs) x
passed p [] x i within is passes = absurd (omega arith)
passed p (y ∷ xs) x zero within is passes =
    let here : p y ≡ true = ap p is ∙ passes in
    rw here (0, omega arith, is)
passed p (y ∷ xs) x (suc i) within is passes =
    let rest = passed p xs x i (omega arith) is passes in
    elim (cases_Bool (p y)) [ inl here ↦ rw here (suc rest.0, omega (arith, rest.1), rest.2) | inr not ↦ rw not rest ]

between : (first count : ℕ) → All (λ n. (first ≤ n) × (n < first + count)) (range_with_len first count)
between first count i d within =
    let inside : i < count = omega (arith, length-range_with_len first count) in
    rw (get_or-range_with_len first count i d inside) (omega arith, omega arith)

is_checkpoint : (interval low high at : ℕ) → Contains (checkpoints_between interval low high) at → (low < at) × (at ≤ high) × (at % interval ≡ 0)
is_checkpoint interval low high at contains =
    let test = λ (n : ℕ). nat_eq (n % interval) 0 in
    let range = range_with_len (low + 1) (high - low) in
    let passes = All-contains (λ n. test n ≡ true) (filter test range) at (filter_passes test range) contains in
    let inside = All-contains (λ n. (low + 1 ≤ n) × (n < low + 1 + (high - low))) (filter test range) at (All-filter test (λ n. (low + 1 ≤ n) × (n < low + 1 + (high - low))) range (between (low + 1) (high - low))) contains in
    (omega (arith, inside.0, inside.1), omega (arith, inside.0, inside.1), eqb-true (at % interval) 0 passes)

has_checkpoint : (interval low high at : ℕ) → low < at → at ≤ high → at % interval ≡ 0 → Contains (checkpoints_between interval low high) at
has_checkpoint interval low high at above below multiple =
    let range = range_with_len (low + 1) (high - low) in
    let i = at - low - 1 in
    let inside : i < high - low = omega arith in
    let is : low + 1 + i ≡ at = omega arith in
    passed (λ n. nat_eq (n % interval) 0) range at i (omega (arith, length-range_with_len (low + 1) (high - low), inside)) (get_or-range_with_len (low + 1) (high - low) i at inside ∙ is) (eq-eqb (at % interval) 0 multiple)

pub checkpoints_are : (interval low high at : ℕ) → Contains (checkpoints_between interval low high) at ↔ ((low < at) × (at ≤ high) × (at % interval ≡ 0))
checkpoints_are interval low high at = (is_checkpoint interval low high at, λ is. has_checkpoint interval low high at is.0 is.1 is.2)

some_within : {X : Type 0} (xs : List X) (i : ℕ) → i < length xs → IsSome (slice_get xs i)
some_within [] i within = absurd (omega arith)
some_within (x ∷ xs) zero within = refl
some_within (x ∷ xs) (suc i) within = some_within xs i (omega arith)

pub entry_within : (s : Stretch) (place : ℕ) → s.base.place < place → place ≤ end_of s → IsSome (entry_in s place)
entry_within s place above within = rw (lt-leb place s.base.place above) (some_within s.entries (place - s.base.place - 1) (omega arith))

pub entry_at_checkpoint : {S : Type 0} (interval low place at : ℕ) (told : Stretch) (k : Kept S) → Meets told place k → place ≤ end_of told → k.base.place ≤ low → Contains (checkpoints_between interval low place) at → IsSome (entry_in (stretch_of (taken_over told place k)) at)
unfolding taken_over
entry_at_checkpoint interval low place at told k meets within base contains =
    let is = is_checkpoint interval low place at contains in
    let end : last_place (taken_over told place k) ≡ place = taken_end told place k meets within in
    entry_within (stretch_of (taken_over told place k)) at (omega (arith, is.0)) (omega (arith, is.1, end))
