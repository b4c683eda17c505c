-- The numbers of live replicas, no two the same.
use Rattle.std.proofs.Common.{◌≡◌, ◌⊎◌, inl, inr, ℕ, zero, suc, ◌+◌, ◌<◌, ◌≤◌, Bool, true, false, List, [], ◌∷◌, ◌++◌, length, cond, refl, sym, ap, ◌∙◌, subst, arith}
use Rattle.std.proofs.lemmas.Bool.{cases_eq, eq-eqb, eqb-true, ne_eqb, or_cases, or_from, or_left, or_right, true≢false}
use Rattle.std.proofs.lemmas.List.FromFn.{length-range_with_len}
use Rattle.std.proofs.lemmas.List.Sums.{count_by-le-length, length-filter}
use Rattle.std.specs.List.{AllByRecursion, filter, list_any, range_with_len}
use Rattle.std.specs.Prelude.{nat_eq, if◌then◌else◌}

abbrev pub is_in : List ℕ → ℕ → Bool
is_in ids id = list_any (nat_eq id) ids

abbrev pub AreDifferent : List ℕ → Type 0
AreDifferent [] = Unit {0}
AreDifferent (id ∷ ids) = (is_in ids id ≡ false) × AreDifferent ids

pub different_behind : (front back : List ℕ) → AreDifferent (front ++ back) → AreDifferent back
different_behind [] back are = are
different_behind (id ∷ front) back are = different_behind front back are.1

-- ---- numbers that rise

abbrev Rise : ℕ → List ℕ → Type 0
Rise low [] = Unit {0}
Rise low (id ∷ ids) = (low ≤ id) × Rise (suc id) ids

lower : (low high : ℕ) (ids : List ℕ) → low ≤ high → Rise high ids → Rise low ids
lower low high [] less rise = tt
lower low high (id ∷ ids) less rise = ((let e : low ≤ id = omega (arith, rise.0) in e), rise.1)

range_rises : (a n : ℕ) → Rise a (range_with_len a n)
range_rises a zero = tt
range_rises a (suc n) = ((let e : a ≤ a = omega arith in e), lower (suc a) (a + 1) (range_with_len (a + 1) n) (omega arith) (range_rises (a + 1) n))

filter_rise : (low id : ℕ) (ids : List ℕ) (b : Bool) → low ≤ id → Rise (suc id) ids → Rise low (cond b (id ∷ ids) ids)
filter_rise low id ids true above rise = (above, rise)
filter_rise low id ids false above rise = lower low (suc id) ids (omega arith) rise

filter_rises : (p : ℕ → Bool) (low : ℕ) (ids : List ℕ) → Rise low ids → Rise low (filter p ids)
filter_rises p low [] rise = tt
filter_rises p low (id ∷ ids) rise = filter_rise low id (filter p ids) (p id) rise.0 (filter_rises p (suc id) ids rise.1)

below_none : (j low : ℕ) (ids : List ℕ) → j < low → Rise low ids → is_in ids j ≡ false
below_none j low [] less rise = refl
below_none j low (id ∷ ids) less rise = or_from (nat_eq j id) (is_in ids j) (ne_eqb j id (λ same. omega (arith, rise.0))) (below_none j (suc id) ids (omega (arith, rise.0)) rise.1)

rise_different : (low : ℕ) (ids : List ℕ) → Rise low ids → AreDifferent ids
rise_different low [] rise = tt
rise_different low (id ∷ ids) rise = (below_none id (suc id) ids (omega arith) rise.1, rise_different (suc id) ids rise.1)

-- ---- all but the first

abbrev pub not_first : ℕ → Bool
not_first id = if nat_eq id 0 then false else true

behind_first : (a n : ℕ) → 0 < a → filter not_first (range_with_len a n) ≡ range_with_len a n
behind_first a zero some = refl
behind_first a (suc n) some =
    let later : nat_eq a 0 ≡ false = ne_eqb a 0 (λ is. omega arith) in
    ap (λ (b : Bool). cond (if b then false else true) (a ∷ filter not_first (range_with_len (a + 1) n)) (filter not_first (range_with_len (a + 1) n))) later
    ∙ ap (λ (l : List ℕ). a ∷ l) (behind_first (a + 1) n (omega arith))

module _ (is_live : ℕ → Bool) (n : ℕ) where
  -- the live ones but the first, and all of them
  abbrev pub backups : List ℕ
  backups = filter is_live (filter not_first (range_with_len 0 n))

  abbrev pub live : List ℕ
  live = filter is_live (range_with_len 0 n)

module _ (is_live : ℕ → Bool) (first : is_live 0 ≡ true) where
  pub backups_behind : (n : ℕ) → 1 ≤ n → live is_live n ≡ 0 ∷ backups is_live n
  backups_behind zero some = absurd (omega arith)
  backups_behind (suc n) some =
      ap (λ (b : Bool). cond b (0 ∷ filter is_live (range_with_len (0 + 1) n)) (filter is_live (range_with_len (0 + 1) n))) first
      ∙ ap (λ (l : List ℕ). 0 ∷ filter is_live l) (sym (behind_first (0 + 1) n (omega arith)))

  pub all_different : (n : ℕ) → 1 ≤ n → AreDifferent (0 ∷ backups is_live n)
  all_different n some = subst AreDifferent (backups_behind n some) (rise_different 0 (live is_live n) (filter_rises is_live 0 (range_with_len 0 n) (range_rises 0 n)))

-- ---- each of them passes, and is a replica's

filter_one : (P : ℕ → Type 0) (p : ℕ → Bool) (id : ℕ) (ids : List ℕ) (b : Bool) → p id ≡ b → P id → AllByRecursion (λ j. (p j ≡ true) × P j) ids → AllByRecursion (λ j. (p j ≡ true) × P j) (cond b (id ∷ ids) ids)
filter_one P p id ids true is one all = ((is, one), all)
filter_one P p id ids false is one all = all

pub filter_all : (P : ℕ → Type 0) (p : ℕ → Bool) (ids : List ℕ) → AllByRecursion P ids → AllByRecursion (λ id. (p id ≡ true) × P id) (filter p ids)
filter_all P p [] all = tt
filter_all P p (id ∷ ids) all = filter_one P p id (filter p ids) (p id) refl all.0 (filter_all P p ids all.1)

pub range_below : (a n m : ℕ) → a + n ≤ m → AllByRecursion (λ id. id < m) (range_with_len a n)
range_below a zero m within = tt
range_below a (suc n) m within = ((let e : a < m = omega arith in e), range_below (a + 1) n m (omega arith))

all_second : (P Q : ℕ → Type 0) (ids : List ℕ) → AllByRecursion (λ id. P id × Q id) ids → AllByRecursion Q ids
all_second P Q [] all = tt
all_second P Q (id ∷ ids) all = (all.0.1, all_second P Q ids all.1)

pub backups_live : (is_live : ℕ → Bool) (n : ℕ) → AllByRecursion (λ id. (is_live id ≡ true) × (id < n)) (backups is_live n)
backups_live is_live n =
    filter_all (λ id. id < n) is_live (filter not_first (range_with_len 0 n))
    (all_second (λ id. not_first id ≡ true) (λ id. id < n) (filter not_first (range_with_len 0 n)) (filter_all (λ id. id < n) not_first (range_with_len 0 n) (range_below 0 n n (omega arith))))

-- ---- who is among them

filter_has_one : (p : ℕ → Bool) (id j : ℕ) (ids : List ℕ) (b : Bool) → p j ≡ b → p id ≡ true → (nat_eq id j ≡ true) ⊎ (is_in ids id ≡ true) → is_in (cond b (j ∷ ids) ids) id ≡ true
filter_has_one p id j ids true is passes (inl first) = or_left (nat_eq id j) (is_in ids id) first
filter_has_one p id j ids true is passes (inr later) = or_right (nat_eq id j) (is_in ids id) later
filter_has_one p id j ids false is passes (inl first) = absurd (let same : p id ≡ p j = ap p (eqb-true id j first) in let wrong : true ≡ false = sym passes ∙ same ∙ is in true≢false wrong)
filter_has_one p id j ids false is passes (inr later) = later

kept_in : (p : ℕ → Bool) (id j : ℕ) (ids : List ℕ) → (is_in ids id ≡ true → is_in (filter p ids) id ≡ true) → (nat_eq id j ≡ true) ⊎ (is_in ids id ≡ true) → (nat_eq id j ≡ true) ⊎ (is_in (filter p ids) id ≡ true)
kept_in p id j ids later (inl first) = inl first
kept_in p id j ids later (inr there) = inr (later there)

filter_has : (p : ℕ → Bool) (id : ℕ) (ids : List ℕ) → p id ≡ true → is_in ids id ≡ true → is_in (filter p ids) id ≡ true
filter_has p id [] passes there = there
filter_has p id (j ∷ ids) passes there =
    filter_has_one p id j (filter p ids) (p j) refl passes (kept_in p id j ids (filter_has p id ids passes) (or_cases (nat_eq id j) (is_in ids id) there))

range_has_one : (id a n : ℕ) → (id ≡ a) ⊎ (id ≡ a → ⊥) → ((id ≡ a → ⊥) → is_in (range_with_len (a + 1) n) id ≡ true) → is_in (range_with_len a (suc n)) id ≡ true
range_has_one id a n (inl same) later = or_left (nat_eq id a) (is_in (range_with_len (a + 1) n) id) (eq-eqb id a same)
range_has_one id a n (inr other) later = or_right (nat_eq id a) (is_in (range_with_len (a + 1) n) id) (later other)

range_has : (id a n : ℕ) → a ≤ id → id < a + n → is_in (range_with_len a n) id ≡ true
range_has id a zero above below = absurd (omega arith)
range_has id a (suc n) above below = range_has_one id a n (cases_eq id a) (λ other. range_has id (a + 1) n (omega (arith, other)) (omega arith))

pub among_backups : (is_live : ℕ → Bool) (n id : ℕ) → is_live id ≡ true → id < n → (id ≡ 0 → ⊥) → is_in (backups is_live n) id ≡ true
among_backups is_live n id live inside other =
    filter_has is_live id (filter not_first (range_with_len 0 n)) live
    (filter_has not_first id (range_with_len 0 n) (ap (λ (b : Bool). if b then false else true) (ne_eqb id 0 other)) (range_has id 0 n (omega arith) (omega (arith, inside))))

pub few_live : (is_live : ℕ → Bool) (n : ℕ) → length (live is_live n) ≤ n
few_live is_live n = omega (arith, length-filter is_live (range_with_len 0 n), count_by-le-length is_live (range_with_len 0 n), length-range_with_len 0 n)

pub among_live : (is_live : ℕ → Bool) (n id : ℕ) → is_live id ≡ true → id < n → is_in (live is_live n) id ≡ true
among_live is_live n id passes inside = filter_has is_live id (range_with_len 0 n) passes (range_has id 0 n (omega arith) (omega (arith, inside)))

pub live_live : (is_live : ℕ → Bool) (n : ℕ) → AllByRecursion (λ id. (is_live id ≡ true) × (id < n)) (live is_live n)
live_live is_live n = filter_all (λ id. id < n) is_live (range_with_len 0 n) (range_below 0 n n (omega arith))
