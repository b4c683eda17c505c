-- A script whose lines are read one after the other.
use Rattle.std.proofs.Common.{◌≡◌, ℕ, suc, ◌+◌, Bool, true, false, List, [], ◌∷◌, ◌++◌, ◌-◌, Result, Ok, Err, refl, ap, ◌≢◌, ◌==◌, not, cond, take, drop, length, ◌≤◌, Some, None, position, nat_lt, arith, add-one, eqb-true, inl, inr, ◌⊎◌}
use Rattle.std.proofs.lemmas.Bool.{eqb-false}
use Rattle.std.proofs.lemmas.Grind.{common_steps}
use Rattle.std.proofs.lemmas.Bool.Decides.{nat_tests}
use Rattle.std.specs.List.{AllByRecursion, flat_map, position_or_len}
use Rattle.zy_schedule.specs.Lines.{TextFault, lines_of, onto_first}

-- items, and then what further lines say
abbrev pub behind : {A : Type 0} → List A → Result (List A) TextFault → Result (List A) TextFault
behind items (Err fault) = Err fault
behind items (Ok others) = Ok (items ++ others)

abbrev is_feed : ℕ → Bool
is_feed byte = byte == 10

-- the first line ends before the first line feed, or at the end where there is none
split_at : (text : List ℕ) → text ≢ []
    → lines_of text ≡ take (position_or_len is_feed text) text ∷ lines_of (drop (suc (position_or_len is_feed text)) text)
split_at [] some = absurd (some refl)
split_at (c ∷ []) some =
    elim (c == 10) as (λ b. cond b ([] ∷ []) ((c ∷ []) ∷ []) ≡ take (cond (not b) (1 + 0) 0) (c ∷ []) ∷ lines_of (drop (suc (cond (not b) (1 + 0) 0)) (c ∷ []))) [
      | true ↦ refl
      | false ↦ refl
    ]
split_at (c ∷ d ∷ text) some =
    let end : ℕ = position_or_len is_feed (d ∷ text) in
    let rest : lines_of (d ∷ text) ≡ take end (d ∷ text) ∷ lines_of (drop (suc end) (d ∷ text)) = split_at (d ∷ text) (λ e. cc) in
    let one : 1 + end ≡ suc end = omega arith in
    elim (c == 10) as (λ b. cond b ([] ∷ lines_of (d ∷ text)) (onto_first c (lines_of (d ∷ text)))
    ≡ take (cond (not b) (1 + end) 0) (c ∷ d ∷ text) ∷ lines_of (drop (suc (cond (not b) (1 + end) 0)) (c ∷ d ∷ text))) [
      | true ↦ refl
      | false ↦ rw (rest, one)
    ]

fed_at : (b : Bool) (end place : ℕ) → Some end ≡ cond b (Some place) None → end ≡ place
fed_at true end place is = cc
fed_at false end place is = cc

pub lines_of-fed : (text : List ℕ) (end : ℕ) → text ≢ [] → Some end ≡ position is_feed text
    → lines_of text ≡ take end text ∷ lines_of (take (length text - (end + 1)) (drop (end + 1) text))
lines_of-fed text end some is =
    let rest : take (length text - (end + 1)) (drop (end + 1) text) ≡ drop (end + 1) text = grind (arith, common_steps) in
    let at : end ≡ position_or_len is_feed text = fed_at (nat_lt (position_or_len is_feed text) (length text)) end (position_or_len is_feed text) is in
    rw (rest, add-one, at) (split_at text some)

unfed : (b : Bool) (place : ℕ) → None ≡ cond b (Some place) None → b ≡ false
unfed true place is = cc
unfed false place is = refl

pub lines_of-last : (text : List ℕ) → text ≢ [] → None ≡ position is_feed text
    → lines_of text ≡ text ∷ lines_of (take (length text - length text) (drop (length text) text))
lines_of-last text some is =
    let rest : take (length text - length text) (drop (length text) text) ≡ [] = grind (arith, common_steps) in
    let past : length text ≤ position_or_len is_feed text = grind (arith, nat_tests, unfed (nat_lt (position_or_len is_feed text) (length text)) (position_or_len is_feed text) is) in
    let whole : take (position_or_len is_feed text) text ≡ text = grind (arith, common_steps) in
    let none : drop (suc (position_or_len is_feed text)) text ≡ [] = grind (arith, common_steps) in
    let split : lines_of text ≡ take (position_or_len is_feed text) text ∷ lines_of (drop (suc (position_or_len is_feed text)) text) = split_at text some in
    rw rest (rw (whole, none) at split)

-- ---- what the lines of a text are

abbrev pub ended : List ℕ → List ℕ
ended line = line ++ 10 ∷ []

Restores : List (List ℕ) → List ℕ → Type 0
Restores lines text = (flat_map ended lines ≡ text) ⊎ (flat_map ended lines ≡ text ++ 10 ∷ [])

no_text : (text : List ℕ) → [] ≡ text ++ 10 ∷ [] → ⊥
no_text [] e = cc
no_text (c ∷ text) e = cc

restored : (c : ℕ) (lines : List (List ℕ)) (text : List ℕ) (b : Bool) → (c == 10) ≡ b → Restores lines text
    → Restores (cond b ([] ∷ lines) (onto_first c lines)) (c ∷ text)
unfolding Restores
restored c lines text true fed (inl whole) = inl (rw (eqb-true c 10 fed) (ap (λ l. 10 ∷ l) whole))
restored c lines text true fed (inr whole) = inr (rw (eqb-true c 10 fed) (ap (λ l. 10 ∷ l) whole))
restored c [] text false fed (inl whole) = inr (rw (← whole) refl)
restored c [] text false fed (inr whole) = absurd (no_text text whole)
restored c (line ∷ lines) text false fed (inl whole) = inl (ap (λ l. c ∷ l) whole)
restored c (line ∷ lines) text false fed (inr whole) = inr (ap (λ l. c ∷ l) whole)

-- with their line feeds they make the text again, or the text with the line feed that it lacks
pub lines_of-whole : (text : List ℕ) → (flat_map ended (lines_of text) ≡ text) ⊎ (flat_map ended (lines_of text) ≡ text ++ 10 ∷ [])
unfolding Restores
lines_of-whole [] = inl refl
lines_of-whole (c ∷ text) = restored c (lines_of text) text (c == 10) refl (lines_of-whole text)

abbrev pub HasNoFeed : List ℕ → Type 0
HasNoFeed line = AllByRecursion (λ byte. byte ≢ 10) line

without_feed : (c : ℕ) (lines : List (List ℕ)) (b : Bool) → (c == 10) ≡ b → AllByRecursion HasNoFeed lines
    → AllByRecursion HasNoFeed (cond b ([] ∷ lines) (onto_first c lines))
without_feed c lines true fed others = (tt, others)
without_feed c [] false fed others = ((eqb-false c 10 fed, tt), tt)
without_feed c (line ∷ lines) false fed others = ((eqb-false c 10 fed, others.0), others.1)

-- none of them has a line feed
pub lines_of-unfed : (text : List ℕ) → AllByRecursion HasNoFeed (lines_of text)
lines_of-unfed [] = tt
lines_of-unfed (c ∷ text) = without_feed c (lines_of text) (c == 10) refl (lines_of-unfed text)
