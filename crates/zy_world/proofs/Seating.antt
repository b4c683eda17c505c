-- Parties take their seats one by one.
use Rattle.std.proofs.Common.{◌≡◌, ℕ, ◌+◌, Bool, true, false, List, [], ◌∷◌, ◌++◌, length, map, Some, None, refl, sym, ap, ap₂, ◌∙◌, arith}
use Rattle.std.specs.Prelude.{nat_eq, if◌then◌else◌}
use Rattle.std.specs.List.{list_any, range_with_len}
use Rattle.std.proofs.lemmas.List.{length-append}
use Rattle.std.proofs.lemmas.List.FromFn.{length-map-range_with_len, map-range_with_len_more}
use Rattle.zy_world_setup.proofs.ListLemmas.{any_number}

-- ---- one seat, and one key

pub liar_seated : {A : Type 0} (lies : Bool) (x : A) → lies ≡ true → None ≡ (if lies then None else Some x)
liar_seated lies x is = rw is refl

pub liar_signs : {A : Type 0} (lies : Bool) (x y : A) → lies ≡ true → x ≡ y → Some x ≡ (if lies then Some y else None)
liar_signs lies x y is same = rw (is, same) refl

pub correct_sits : {A : Type 0} (lies : Bool) (x y : A) → lies ≡ false → x ≡ y → Some x ≡ (if lies then None else Some y)
correct_sits lies x y is same = rw (is, same) refl

pub correct_keeps : {A : Type 0} (lies : Bool) (x : A) → lies ≡ false → None ≡ (if lies then Some x else None)
correct_keeps lies x is = rw is refl

-- a number is among those of the liars
pub among : {A : Type 0} (f : A → ℕ) (n : ℕ) (ids slice : List A) (numbers : List ℕ) (told lies : Bool) → told ≡ list_any (λ x. nat_eq (f x) n) slice → slice ≡ ids → map f ids ≡ numbers → told ≡ lies
    → list_any (nat_eq n) numbers ≡ lies
among {A = A} f n ids slice numbers told lies is same are answer =
    ap (list_any (nat_eq n)) (sym are) ∙ sym (any_number f n ids) ∙ ap (λ (l : List A). list_any (λ x. nat_eq (f x) n) l) (sym same) ∙ sym is ∙ answer

-- ---- all of them

-- a list of items that are made from their numbers
abbrev pub IsMade : {X : Type 0} → (ℕ → X) → ℕ → List X → Type 0
IsMade f n xs = xs ≡ map f (range_with_len 0 n)

-- what is left of one, from the number n on
abbrev pub IsLeft : {X : Type 0} → (ℕ → X) → ℕ → List X → Type 0
IsLeft f n xs = xs ≡ map f (range_with_len n (length xs))

pub made_none : {X : Type 0} (f : ℕ → X) (xs : List X) (n : ℕ) → n ≡ 0 → xs ≡ [] → IsMade f n xs
made_none f xs n zero none = none ∙ ap (λ (k : ℕ). map f (range_with_len 0 k)) (sym zero)

-- an item more
pub made_more : {X : Type 0} (f : ℕ → X) (xs ys : List X) (n at m : ℕ) → IsMade f n xs → ys ≡ xs ++ f at ∷ [] → at ≡ n → m ≡ n + 1 → IsMade f m ys
made_more {X = X} f xs ys n at m is more here next =
    let from_zero : 0 + n ≡ n = omega arith in
    more ∙ ap₂ (λ (l : List X) (k : ℕ). l ++ f k ∷ []) is here ∙ sym (map-range_with_len_more f 0 n n from_zero) ∙ ap (λ (k : ℕ). map f (range_with_len 0 k)) (sym next)

pub length_more : {X : Type 0} (xs ys : List X) (x : X) → ys ≡ xs ++ x ∷ [] → length ys ≡ length xs + 1
length_more xs ys x more = ap length more ∙ length-append xs (x ∷ [])

-- the next item that is left, and those behind it
pub next_left : {X : Type 0} (f : ℕ → X) (x : X) (more rest : List X) (n : ℕ) → rest ≡ x ∷ more → IsLeft f n rest → (x ≡ f n) × IsLeft f (n + 1) more
next_left {X = X} f x more rest n split is =
    let both : x ∷ more ≡ f n ∷ map f (range_with_len (n + 1) (length more)) =
    sym split ∙ is ∙ ap (λ (l : List X). map f (range_with_len n (length l))) split in
    (cc, cc)

-- all of them are left before the first
pub all_left : {X A : Type 0} (f : ℕ → X) (n : ℕ) (xs : List X) (seats : List A) → seats ≡ [] → xs ≡ map f (range_with_len 0 n) → IsLeft f (length seats) xs × (length seats + length xs ≡ n)
all_left f n xs seats none is =
    let empty = ap length none in
    let long = ap length is ∙ length-map-range_with_len f 0 n in
    (is ∙ ap₂ (λ (a b : ℕ). map f (range_with_len a b)) (sym empty) (sym long), omega (arith, empty, long))
