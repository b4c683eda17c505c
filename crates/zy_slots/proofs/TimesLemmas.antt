-- How often a place stands in a list, and the places of a list's ends.
use Rattle.std.proofs.Common.{◌≡◌, ◌≢◌, ◌⊎◌, ℕ, zero, suc, ◌+◌, ◌<◌, ◌≤◌, eqb, List, [], ◌∷◌, ◌++◌, Option, Some, None, refl, sym, ap, ◌∙◌, subst, inl, inr, arith}
use Rattle.std.proofs.lemmas.Bool.{eq-eqb}
use Rattle.std.proofs.lemmas.Bool.Decides.{eqb_tells}
use Rattle.zy_slots.specs.Rings.{first_of, last_from, last_of}
use Rattle.zy_slots.specs.Shape.{times, IsAmong}

pub times-append : (place : ℕ) (front back : List ℕ) → times place (front ++ back) ≡ times place front + times place back
times-append place [] back = omega arith
times-append place (other ∷ front) back = omega (arith, times-append place front back)

pub times_self : (place : ℕ) (places : List ℕ) → times place (place ∷ places) ≡ 1 + times place places
times_self place places = rw (eq-eqb place place refl) refl

-- a place in the middle
pub times_middle : (other : ℕ) (earlier : List ℕ) (place : ℕ) (later : List ℕ)
    → times other (earlier ++ place ∷ later) ≡ times other earlier + times other (place ∷ []) + times other later
times_middle other earlier place later = omega (arith, times-append other earlier (place ∷ later))

pub times_there : (earlier : List ℕ) (place : ℕ) (later : List ℕ)
    → times place (earlier ++ place ∷ later) ≡ times place earlier + 1 + times place later
times_there earlier place later = omega (arith, times-append place earlier (place ∷ later), times_self place later)

pub not_there : (place : ℕ) (places : List ℕ) (other : Option ℕ) → IsAmong places other → times place places ≡ 0 → Some place ≢ other
not_there place places None among none same = cc
not_there place places (Some other) among none same =
    let equal : place ≡ other = cc in
    let some : 0 < times place places = subst (λ (at : ℕ). 0 < times at places) (sym equal) among in
    omega arith

pub among_more : (places more : List ℕ) (place : Option ℕ) → ((other : ℕ) → 0 < times other places → 0 < times other more) → IsAmong places place → IsAmong more place
among_more places more None sub among = tt
among_more places more (Some place) sub among = sub place among

pub first_among : (places : List ℕ) → IsAmong places (first_of places)
first_among [] = tt
first_among (place ∷ places) = omega (arith, times_self place places)

last_from_among : (all : List ℕ) (before : Option ℕ) (places : List ℕ) → IsAmong all before
    → ((other : ℕ) → 0 < times other places → 0 < times other all) → IsAmong all (last_from before places)
last_from_among all before [] among sub = among
last_from_among all before (place ∷ places) among sub =
    last_from_among all (Some place) places (sub place (omega (arith, times_self place places))) (λ other some. sub other (omega arith))

pub last_among : (places : List ℕ) → IsAmong places (last_of places)
last_among places = last_from_among places None places tt (λ other some. some)

pub last-append : (before : Option ℕ) (front : List ℕ) (place : ℕ) (back : List ℕ) → last_from before (front ++ place ∷ back) ≡ last_from (Some place) back
last-append before [] place back = refl
last-append before (other ∷ front) place back = last-append (Some other) front place back

pub some_last : (place : ℕ) (places : List ℕ) → last_from (Some place) places ≢ None
some_last place [] same = cc
some_last place (other ∷ places) same = some_last other places same

-- a list in two parts, split at one of its elements
pub split_cases : {A : Type 0} (front back earlier : List A) (x : A) (later : List A) → front ++ back ≡ earlier ++ x ∷ later
    → ((rest : List A) × (front ≡ earlier ++ x ∷ rest) × (later ≡ rest ++ back))
    ⊎ ((rest : List A) × (earlier ≡ front ++ rest) × (back ≡ rest ++ x ∷ later))
split_cases [] back earlier x later same = inr (earlier, refl, same)
split_cases {A} (y ∷ front) back [] x later same =
    let head : y ≡ x = cc in
    let tail : front ++ back ≡ later = cc in
    inl (front, ap (λ (z : A). z ∷ front) head, sym tail)
split_cases {A} (y ∷ front) back (z ∷ earlier) x later same =
    let head : y ≡ z = cc in
    let tail : front ++ back ≡ earlier ++ x ∷ later = cc in
    elim (split_cases front back earlier x later tail) [
      | inl found ↦ inl (found.0, cc (ap (λ (list : List A). y ∷ list) found.1), found.2)
      | inr found ↦ inr (found.0, cc (ap (λ (list : List A). y ∷ list) found.1), found.2)
    ]

pub other_place : (place other : ℕ) → place ≢ other → times place (other ∷ []) ≡ 0
other_place place other apart =
    elim (eqb_tells place other) [
      | inl same ↦ absurd (apart same.1)
      | inr not ↦ rw not.0 refl
    ]

pub never : (n limit : ℕ) → (0 < n → limit < limit) → n ≡ 0
never zero limit inside = refl
never (suc n) limit inside = let less : limit < limit = inside (omega arith) in absurd (omega arith)
