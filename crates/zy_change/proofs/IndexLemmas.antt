-- Slots and what is looked up by the number of a replica.
use Rattle.std.proofs.Common.{◌≡◌, ℕ, zero, suc, ◌+◌, ◌-◌, ◌<◌, ◌≤◌, nat_eq, nat_le, Bool, true, false, cond, if◌then◌else◌, List, [], ◌∷◌, ◌++◌, length, map, take, filter, get_or, Option, Some, None, refl, sym, ap, ◌∙◌, arith, add-zero, add-one, add-suc}
use Rattle.std.proofs.lemmas.Bool.{eqb-true, eqb-false, leb-true}
use Rattle.std.proofs.lemmas.List.{get_or-set_same, get_or-set_other}
use Rattle.std.proofs.lemmas.List.Elements.{filter_map-append}
use Rattle.zy_chain.specs.Stretch.{Stretch, entry_in}
use Rattle.std.specs.Prelude.{option_to_list, slice_set, slice_index_or, slice_get, is_some, option_map, option_and_then}
use Rattle.std.specs.List.{filter_map, cons_option, range_with_len}

-- ---- one slot

-- a slot that is read after one was filled
pub read_set : {A : Type 0} (xs : List A) (id at : ℕ) (x d : A) → id < length xs → slice_index_or (slice_set xs id x) at d ≡ (if nat_eq id at then x else slice_index_or xs at d)
read_set {A} xs id at x d within = by (nat_eq id at) refl
  where
    by : (same : Bool) → nat_eq id at ≡ same → slice_index_or (slice_set xs id x) at d ≡ (if same then x else slice_index_or xs at d)
    by true is = let e : id ≡ at = eqb-true id at is in ap (λ k. slice_index_or (slice_set xs id x) k d) (sym e) ∙ get_or-set_same xs id x d within
    by false is = get_or-set_other xs id at x d (λ e. eqb-false id at is (sym e))

pub read_map : {A B : Type 0} (f : Option A → Option B) → f None ≡ None → (xs : List (Option A)) (at : ℕ) → slice_index_or (map f xs) at None ≡ f (slice_index_or xs at None)
read_map f none [] at = sym none
read_map f none (x ∷ xs) zero = refl
read_map f none (x ∷ xs) (suc at) = read_map f none xs at

pub map_long : {A B : Type 0} (f : A → B) (xs : List A) → length (map f xs) ≡ length xs
map_long f [] = refl
map_long f (x ∷ xs) = ap suc (map_long f xs)

-- ---- all slots, by their numbers

from : {A B : Type 0} (h : Option A → Option B) (g : ℕ → Option B) (first : ℕ) (xs : List (Option A)) → ((at : ℕ) → g (first + at) ≡ h (slice_index_or xs at None))
    → filter_map g (range_with_len first (length xs)) ≡ filter_map h xs
from h g first [] same = refl
from h g first (x ∷ xs) same =
    let here : g first ≡ h x = ap g (sym (add-zero first)) ∙ same 0 in
    let rest : filter_map g (range_with_len (first + 1) (length xs)) ≡ filter_map h xs =
    from h g (first + 1) xs (λ at. let e : first + 1 + at ≡ first + suc at = omega arith in ap g e ∙ same (suc at)) in
    ap (λ o. cons_option o (filter_map g (range_with_len (first + 1) (length xs)))) here ∙ ap (cons_option (h x)) rest

pub by_index : {A B : Type 0} (h : Option A → Option B) (g : ℕ → Option B) (n : ℕ) (xs : List (Option A)) → length xs ≡ n → ((at : ℕ) → g at ≡ h (slice_index_or xs at None))
    → filter_map g (range_with_len 0 n) ≡ filter_map h xs
by_index h g n xs long same =
    ap (λ k. filter_map g (range_with_len 0 k)) (sym long) ∙ from h g 0 xs (λ at. let e : 0 + at ≡ at = omega arith in ap g e ∙ same at)

-- ---- lists without what isn't there

pub each_same : {A B : Type 0} (f g : A → Option B) → ((x : A) → f x ≡ g x) → (xs : List A) → filter_map f xs ≡ filter_map g xs
each_same f g same [] = refl
each_same f g same (x ∷ xs) = ap (λ o. cons_option o (filter_map f xs)) (same x) ∙ ap (cons_option (g x)) (each_same f g same xs)

cons_mapped : {A B : Type 0} (f : A → B) (o : Option A) (xs : List A) → cons_option (option_map f o) (map f xs) ≡ map f (cons_option o xs)
cons_mapped f None xs = refl
cons_mapped f (Some x) xs = refl

pub map_kept : {A B C : Type 0} (f : B → C) (h : A → Option B) (xs : List A) → filter_map (λ x. option_map f (h x)) xs ≡ map f (filter_map h xs)
map_kept f h [] = refl
map_kept f h (x ∷ xs) = ap (cons_option (option_map f (h x))) (map_kept f h xs) ∙ cons_mapped f (h x) (filter_map h xs)

one_longer : {A B : Type 0} (o : Option B) (x : A) (xs : List A) (ys : List B) → length xs ≡ length ys → length (cond (is_some o) (x ∷ xs) xs) ≡ length (cons_option o ys)
one_longer None x xs ys same = same
one_longer (Some y) x xs ys same = ap suc same

pub as_many_kept : {A B : Type 0} (h : A → Option B) (xs : List A) → length (filter (λ x. is_some (h x)) xs) ≡ length (filter_map h xs)
as_many_kept h [] = refl
as_many_kept h (x ∷ xs) = one_longer (h x) x _ _ (as_many_kept h xs)

pub filter_same : {A : Type 0} (p q : A → Bool) → ((x : A) → p x ≡ q x) → (xs : List A) → filter p xs ≡ filter q xs
filter_same p q same [] = refl
filter_same p q same (x ∷ xs) = ap (λ b. cond b (x ∷ filter p xs) (filter p xs)) (same x) ∙ ap (λ l. cond (q x) (x ∷ l) l) (filter_same p q same xs)

-- the item at an index is what the item at that index gives
nth_one : {A B : Type 0} (h : A → Option B) (o : Option B) (count index : ℕ) (x : A) (xs : List A) (ys : List B) → h x ≡ o
    → ((count index : ℕ) → slice_get (take count ys) index ≡ option_and_then h (slice_get (take count xs) index))
    → slice_get (take count (cons_option o ys)) index ≡ option_and_then h (slice_get (take count (cond (is_some o) (x ∷ xs) xs)) index)
nth_one h None count index x xs ys is rest = rest count index
nth_one h (Some y) zero index x xs ys is rest = refl
nth_one h (Some y) (suc count) zero x xs ys is rest = sym is
nth_one h (Some y) (suc count) (suc index) x xs ys is rest = rest count index

pub nth_kept : {A B : Type 0} (h : A → Option B) (xs : List A) (count index : ℕ) → slice_get (take count (filter_map h xs)) index ≡ option_and_then h (slice_get (take count (filter (λ x. is_some (h x)) xs)) index)
nth_kept h [] zero index = refl
nth_kept h [] (suc count) index = refl
nth_kept h (x ∷ xs) count index = nth_one h (h x) count index x (filter (λ x. is_some (h x)) xs) (filter_map h xs) refl (nth_kept h xs)

pub nth_mapped : {A B : Type 0} (f : A → B) (xs : List A) (index : ℕ) → slice_get (map f xs) index ≡ option_map f (slice_get xs index)
nth_mapped f [] index = refl
nth_mapped f (x ∷ xs) zero = refl
nth_mapped f (x ∷ xs) (suc index) = nth_mapped f xs index

pub nth_taken : {A : Type 0} (xs : List A) (count index : ℕ) → index < count → slice_get (take count xs) index ≡ slice_get xs index
nth_taken xs zero index small = absurd (omega arith)
nth_taken [] (suc count) index small = refl
nth_taken (x ∷ xs) (suc count) zero small = refl
nth_taken (x ∷ xs) (suc count) (suc index) small = nth_taken xs count index (omega arith)

pub nth_not_taken : {A : Type 0} (xs : List A) (count index : ℕ) → count ≤ index → slice_get (take count xs) index ≡ None
nth_not_taken xs zero index large = refl
nth_not_taken [] (suc count) index large = refl
nth_not_taken (x ∷ xs) (suc count) zero large = absurd (omega arith)
nth_not_taken (x ∷ xs) (suc count) (suc index) large = nth_not_taken xs count index (omega arith)

pub copied_same : {A : Type 0} (o : Option A) → option_map (λ x. x) o ≡ o
copied_same None = refl
copied_same (Some x) = refl

-- ---- one after another

-- what is taken of more is taken of what was taken, and more
take_again : {A : Type 0} (count : ℕ) (xs ys : List A) → take count (take count xs ++ ys) ≡ take count (xs ++ ys)
take_again zero xs ys = refl
take_again (suc count) [] ys = refl
take_again (suc count) (x ∷ xs) ys = ap (λ l. x ∷ l) (take_again count xs ys)

one_kept : {A : Type 0} (o : Option A) → cons_option o [] ≡ option_to_list o
one_kept None = refl
one_kept (Some x) = refl

range_more : (first n : ℕ) → range_with_len first (n + 1) ≡ range_with_len first n ++ (first + n) ∷ []
range_more first zero = rw (add-zero first) refl
range_more first (suc n) =
    let e : first + 1 + n ≡ first + suc n = omega arith in
    let longer : suc n + 1 ≡ suc (n + 1) = omega arith in
    ap (range_with_len first) longer
    ∙ ap (λ l. first ∷ l) (range_more (first + 1) n ∙ ap (λ k. range_with_len (first + 1) n ++ k ∷ []) e)

-- one more number is looked up
pub next_taken : {A : Type 0} (count : ℕ) (h : ℕ → Option A) (n : ℕ) (list next : List A) → list ≡ take count (filter_map h (range_with_len 0 n)) → next ≡ take count (list ++ option_to_list (h n))
    → next ≡ take count (filter_map h (range_with_len 0 (n + 1)))
next_taken count h n list next before pushed =
    let e : 0 + n ≡ n = omega arith in
    pushed
    ∙ ap (λ l. take count (l ++ option_to_list (h n))) before
    ∙ take_again count (filter_map h (range_with_len 0 n)) (option_to_list (h n))
    ∙ ap (λ l. take count (filter_map h (range_with_len 0 n) ++ l)) (sym (one_kept (h n)))
    ∙ ap (take count) (sym (filter_map-append h (range_with_len 0 n) (n ∷ [])))
    ∙ ap (λ l. take count (filter_map h l)) (sym (range_more 0 n ∙ ap (λ k. range_with_len 0 n ++ k ∷ []) e))

pub few_taken : {A : Type 0} (count : ℕ) (xs : List A) → length (take count xs) ≤ count
few_taken zero xs = omega arith
few_taken (suc count) [] = omega arith
few_taken (suc count) (x ∷ xs) = let rest = few_taken count xs in omega arith

pub all_taken : {A : Type 0} (count : ℕ) (xs : List A) → count ≤ length xs → length (take count xs) ≡ count
all_taken zero xs many = refl
all_taken (suc count) [] many = absurd (omega arith)
all_taken (suc count) (x ∷ xs) many = ap suc (all_taken count xs (omega arith))

-- ---- the entries of a stretch

pub entry_after : (s : Stretch) (i : ℕ) → entry_in s (s.base.place + i + 1) ≡ slice_get s.entries i
entry_after s i = by (nat_le (s.base.place + i + 1) s.base.place) refl
  where
    by : (b : Bool) → nat_le (s.base.place + i + 1) s.base.place ≡ b → (if b then None else slice_get s.entries (s.base.place + i + 1 - s.base.place - 1)) ≡ slice_get s.entries i
    by true is = let low = leb-true _ _ is in absurd (omega arith)
    by false is = let e : s.base.place + i + 1 - s.base.place - 1 ≡ i = omega arith in ap (slice_get s.entries) e

pub take_next : {A : Type 0} (xs : List A) (i : ℕ) → take i xs ++ option_to_list (slice_get xs i) ≡ take (i + 1) xs
take_next [] zero = refl
take_next [] (suc i) = rw add-one refl
take_next (x ∷ xs) zero = refl
take_next (x ∷ xs) (suc i) =
    let longer : suc i + 1 ≡ suc (i + 1) = omega arith in
    ap (λ l. x ∷ l) (take_next xs i) ∙ ap (λ k. take k (x ∷ xs)) (sym longer)
