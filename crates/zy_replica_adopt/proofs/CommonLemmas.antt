-- The greatest place up to one at which two stretches have one head, and the heads of a stretch entry by entry.
use Rattle.std.proofs.Common.{◌≡◌, ℕ, zero, suc, ◌+◌, ◌-◌, ◌<◌, ◌≤◌, inl, inr, Bool, true, false, List, [], ◌∷◌, length, take, get_or, Option, Some, None, refl, sym, ap, ◌∙◌, subst, arith}
use Rattle.std.specs.Prelude.{◌⊎◌, if◌then◌else◌, nat_lt}
use Rattle.std.proofs.lemmas.List.{take_more}
use Rattle.std.proofs.lemmas.List.Sums.{fold-append}
use Rattle.std.proofs.lemmas.Bool.{cases_Bool, cases_eq, le-ltb, lt-ltb, ltb-false}
use Rattle.zy_base.specs.declared.ids.Digest.{Digest}
use Rattle.zy_base.specs.declared.ids.Place.{Place}
use Rattle.zy_chain.specs.declared.entry.Entry.{Entry}
use Rattle.zy_chain.specs.Entries.{digest_of_entry}
use Rattle.zy_chain.specs.Heads.{head_after, head_from}
use Rattle.zy_chain.specs.Stretch.{Stretch, end_of, head_in, IsShared}
use Rattle.zy_cert.specs.Equal.{digest-equal}
use Rattle.zy_table.specs.Adopting.{same_head, common_up_to}

-- ---- heads

pub head_there : (s : Stretch) (place : ℕ) → s.base.place ≤ place → place ≤ end_of s → head_in s place ≡ Some (head_from s.base.head (take (place - s.base.place) s.entries))
head_there s place above within = rw (le-ltb place s.base.place above, le-ltb (end_of s) place within) refl

pub head_more : (base : Digest) (entries : List Entry) (i : ℕ) (e : Entry) → i < length entries → e ≡ get_or entries i e
    → head_from base (take (i + 1) entries) ≡ head_after (head_from base (take i entries)) (digest_of_entry e)
head_more base entries i e within is =
    ap (head_from base) (take_more entries i e within)
    ∙ fold-append (λ head x. head_after head (digest_of_entry x)) base (take i entries) (get_or entries i e ∷ [])
    ∙ ap (λ (x : Entry). head_after (head_from base (take i entries)) (digest_of_entry x)) (sym is)

-- ---- the greatest place

-- there is none below the base
pub none_below : (told own : Stretch) (place : ℕ) → place < told.base.place → common_up_to place told own ≡ 0
none_below told own zero below = refl
none_below told own (suc place) below = rw (lt-ltb (suc place) told.base.place below) (none_below told own place (omega arith))

pub common_next : (told own : Stretch) (place next : ℕ) → next ≡ place + 1
    → common_up_to next told own ≡ (if same_head (head_in told next) (head_in own next) then next else common_up_to place told own)
common_next told own place next is =
    let at : suc place ≡ next = omega arith in
    subst (λ (n : ℕ). common_up_to n told own ≡ (if same_head (head_in told n) (head_in own n) then n else common_up_to place told own)) at refl

place_picked : (b : Bool) (x y : Place) → (if b then x else y).0 ≡ (if b then x.0 else y.0)
place_picked true x y = refl
place_picked false x y = refl

no_choice : (b : Bool) → ◌≡◌ {A = ℕ} (if b then 0 else 0) 0
no_choice true = refl
no_choice false = refl

pub head_first : (s : Stretch) (place : ℕ) → place ≡ s.base.place → head_in s place ≡ Some s.base.head
head_first s place is =
    let none : place - s.base.place ≡ 0 = omega arith in
    head_there s place (omega arith) (omega arith) ∙ ap (λ (n : ℕ). Some (head_from s.base.head (take n s.entries))) none

first_place : (told own : Stretch) (place : ℕ) → place ≡ told.base.place
    → (if same_head (Some told.base.head) (head_in own place) then place else 0) ≡ common_up_to place told own
first_place told own zero is = no_choice (same_head (Some told.base.head) (head_in own 0))
first_place told own (suc place) is =
    ap (λ (h : Option Digest). if same_head h (head_in own (suc place)) then suc place else 0) (sym (head_first told (suc place) is))
    ∙ ap (λ (n : ℕ). if same_head (head_in told (suc place)) (head_in own (suc place)) then suc place else n) (sym (none_below told own place (omega arith)))

-- at the base, and one place on
pub common_first : (told own : Stretch) (at common : Place) → at.0 ≡ told.base.place
    → common ≡ (if same_head (Some told.base.head) (head_in own at.0) then at else record { 0 = 0 }) → common.0 ≡ common_up_to at.0 told own
common_first told own at common is picked =
    ap (λ (p : Place). p.0) picked ∙ place_picked (same_head (Some told.base.head) (head_in own at.0)) at (record { 0 = 0 }) ∙ first_place told own at.0 is

pub common_more : (told own : Stretch) (at next common further : Place) (head : Digest) → next.0 ≡ at.0 + 1 → head_in told next.0 ≡ Some head → common.0 ≡ common_up_to at.0 told own
    → further ≡ (if same_head (Some head) (head_in own next.0) then next else common) → further.0 ≡ common_up_to next.0 told own
common_more told own at next common further head is there so_far picked =
    let test = same_head (Some head) (head_in own next.0) in
    ap (λ (p : Place). p.0) picked
    ∙ place_picked test next common
    ∙ ap (λ (n : ℕ). if test then next.0 else n) so_far
    ∙ ap (λ (h : Option Digest). if same_head h (head_in own next.0) then next.0 else common_up_to at.0 told own) (sym there)
    ∙ sym (common_next told own at.0 next.0 is)

-- it isn't past the place
pub common_low : (told own : Stretch) (place : ℕ) → common_up_to place told own ≤ place
common_low told own zero = omega arith
common_low told own (suc place) = low_picked (same_head (head_in told (suc place)) (head_in own (suc place))) (common_low told own place)
  where
    low_picked : (b : Bool) → common_up_to place told own ≤ place → (if b then suc place else common_up_to place told own) ≤ suc place
    low_picked true below = omega arith
    low_picked false below = omega arith

-- a head stands from the base to the end
pub head_within : (s : Stretch) (place : ℕ) (head : Digest) → head_in s place ≡ Some head → (s.base.place ≤ place) × (place ≤ end_of s)
head_within s place head there =
    elim (cases_Bool (nat_lt place s.base.place)) [
      | inl under ↦ let none : None ≡ Some head = rw under at there in absurd (cc)
      | inr above ↦
          elim (cases_Bool (nat_lt (end_of s) place)) [
            | inl past ↦ let none : None ≡ Some head = rw (above, past) at there in absurd (cc)
            | inr within ↦ (ltb-false place s.base.place above, ltb-false (end_of s) place within)
          ]
    ]

same_is_shared : (s t : Stretch) (place : ℕ) (first second : Option Digest) → head_in s place ≡ first → head_in t place ≡ second → same_head first second ≡ true → IsShared s t place
same_is_shared s t place None second first_is second_is same = absurd (cc)
same_is_shared s t place (Some a) None first_is second_is same = absurd (cc)
same_is_shared s t place (Some a) (Some b) first_is second_is same =
    record { head = a; first = first_is; second = second_is ∙ ap (λ (d : Digest). Some d) (sym ((digest-equal a b).0 same)) }

shared_is_same : (s t : Stretch) (place : ℕ) → IsShared s t place → same_head (head_in s place) (head_in t place) ≡ true
shared_is_same s t place shared = rw (shared.first, shared.second) ((digest-equal shared.head shared.head).1 refl)

-- 0, or a place at which both have one head
pub common_found : (told own : Stretch) (place : ℕ) → (common_up_to place told own ≡ 0) ⊎ IsShared told own (common_up_to place told own)
common_found told own zero = inl refl
common_found told own (suc place) =
    elim (cases_Bool (same_head (head_in told (suc place)) (head_in own (suc place)))) [
      | inl same ↦ rw same (inr (same_is_shared told own (suc place) (head_in told (suc place)) (head_in own (suc place)) refl refl same))
      | inr other ↦ rw other (common_found told own place)
    ]

-- it isn't past the own end
pub common_within : (told own : Stretch) (place : ℕ) → common_up_to place told own ≤ end_of own
common_within told own place =
    elim (common_found told own place) [
      | inl none ↦ omega (arith, none)
      | inr shared ↦ (head_within own (common_up_to place told own) shared.head shared.second).1
    ]

-- nor below a place at which both have one head
pub common_high : (told own : Stretch) (place lower : ℕ) → IsShared told own lower → lower ≤ place → lower ≤ common_up_to place told own
common_high told own zero lower shared below = omega arith
common_high told own (suc place) lower shared below =
    elim (cases_eq lower (suc place)) [
      | inl here ↦
          let same : same_head (head_in told (suc place)) (head_in own (suc place)) ≡ true =
          subst (λ (n : ℕ). same_head (head_in told n) (head_in own n) ≡ true) here (shared_is_same told own lower shared) in
          rw same below
      | inr other ↦ high_picked (same_head (head_in told (suc place)) (head_in own (suc place))) (common_high told own place lower shared (omega arith))
    ]
  where
    high_picked : (b : Bool) → lower ≤ common_up_to place told own → lower ≤ (if b then suc place else common_up_to place told own)
    high_picked true least = below
    high_picked false least = least

pub common_shared : (told own : Stretch) (place lower : ℕ) → IsShared told own lower → lower ≤ place → IsShared told own (common_up_to place told own)
common_shared told own place lower shared below =
    elim (common_found told own place) [
      | inl none ↦
          let least = common_high told own place lower shared below in
          let here : lower ≡ common_up_to place told own = omega (arith, none, least) in
          subst (λ (n : ℕ). IsShared told own n) here shared
      | inr found ↦ found
    ]
