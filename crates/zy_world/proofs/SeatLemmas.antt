-- Lists of seats after one of them changed.
use Rattle.std.proofs.Common.{◌≡◌, ℕ, zero, suc, ◌+◌, arith, inl, inr, true, List, [], ◌∷◌, length, map, Option, Some, None, refl, sym, ap, ◌∙◌}
use Rattle.std.specs.Prelude.{slice_get, slice_set, option_map, nat_lt}
use Rattle.std.proofs.lemmas.Bool.{cases_lt, lt-ltb, le-ltb}
use Rattle.std.proofs.lemmas.Option.{slice_get-map}
use Rattle.zy_world.specs.Shown.{seat_in, is_seated, is_correct_seat}
use Rattle.zy_world_law.specs.World.{correct_in, is_told}

-- ---- one seat is set

pub set_set : {A : Type 0} (xs : List A) (i : ℕ) (a b : A) → slice_set (slice_set xs i a) i b ≡ slice_set xs i b
set_set [] i a b = refl
set_set (x ∷ xs) zero a b = refl
set_set {A = A} (x ∷ xs) (suc i) a b = ap (λ (l : List A). x ∷ l) (set_set xs i a b)

-- a seat in which nobody sits is left as it is
pub set_none : {A : Type 0} (xs : List (Option A)) (i : ℕ) → correct_in (slice_get xs i) ≡ None → slice_set xs i None ≡ xs
set_none [] i is = refl
set_none {A = A} (x ∷ xs) zero is = ap (λ (seat : Option A). seat ∷ xs) (sym is)
set_none {A = A} (x ∷ xs) (suc i) is = ap (λ (l : List (Option A)). x ∷ l) (set_none xs i is)

pub set_there : {A : Type 0} (xs : List (Option A)) (i : ℕ) (a : A) → correct_in (slice_get xs i) ≡ Some a → slice_set xs i (Some a) ≡ xs
set_there [] i a is = refl
set_there {A = A} (x ∷ xs) zero a is = ap (λ (seat : Option A). seat ∷ xs) (sym is)
set_there {A = A} (x ∷ xs) (suc i) a is = ap (λ (l : List (Option A)). x ∷ l) (set_there xs i a is)

-- who was taken out comes back
pub set_back : {A : Type 0} (xs : List (Option A)) (i : ℕ) (a : A) → correct_in (slice_get xs i) ≡ Some a → slice_set (slice_set xs i None) i (Some a) ≡ xs
set_back xs i a is = set_set xs i None (Some a) ∙ set_there xs i a is

-- ---- what kind of seat it is

pub same_kind : {A B : Type 0} (f : A → B) (o : Option (Option A)) → seat_in (option_map (option_map f) o) ≡ seat_in o
same_kind f None = refl
same_kind f (Some None) = refl
same_kind f (Some (Some x)) = refl

pub kind_of_map : {A B : Type 0} (f : A → B) (xs : List (Option A)) (i : ℕ) → seat_in (slice_get (map (option_map f) xs) i) ≡ seat_in (slice_get xs i)
kind_of_map {A = A} {B = B} f xs i = ap (λ (o : Option (Option B)). seat_in o) (slice_get-map (option_map f) xs i) ∙ same_kind f (slice_get xs i)

-- a correct party in place of another
pub kind_of_set : {A : Type 0} (xs : List (Option A)) (i j : ℕ) (a b : A) → correct_in (slice_get xs i) ≡ Some b → seat_in (slice_get (slice_set xs i (Some a)) j) ≡ seat_in (slice_get xs j)
kind_of_set [] i j a b is = refl
kind_of_set {A = A} (x ∷ xs) zero zero a b is = sym (ap (λ (o : Option A). seat_in (Some o)) is)
kind_of_set (x ∷ xs) zero (suc j) a b is = refl
kind_of_set (x ∷ xs) (suc i) zero a b is = refl
kind_of_set (x ∷ xs) (suc i) (suc j) a b is = kind_of_set xs i j a b is

pub told_kind : {A B : Type 0} (f : A → B) (o : Option (Option A)) → is_told (option_map f (correct_in o)) ≡ is_correct_seat (seat_in o)
told_kind f None = refl
told_kind f (Some None) = refl
told_kind f (Some (Some x)) = refl

some_kind : {A : Type 0} (o : Option A) → is_seated (seat_in (Some o)) ≡ true
some_kind None = refl
some_kind (Some x) = refl

same_lt : (i m n : ℕ) → m ≡ n + 1 → nat_lt (suc i) m ≡ nat_lt i n
same_lt i m n is = elim (cases_lt i n) [
  | inl below ↦ lt-ltb (suc i) m (omega (arith, below, is)) ∙ sym (lt-ltb i n below)
  | inr above ↦ le-ltb (suc i) m (omega (arith, above, is)) ∙ sym (le-ltb i n above)
]

pub within_kind : {A : Type 0} (xs : List (Option A)) (i : ℕ) → nat_lt i (length xs) ≡ is_seated (seat_in (slice_get xs i))
within_kind [] i = le-ltb i 0 (omega arith)
within_kind (x ∷ xs) zero = lt-ltb 0 (length (x ∷ xs)) (omega arith) ∙ sym (some_kind x)
within_kind (x ∷ xs) (suc i) = same_lt i (length (x ∷ xs)) (length xs) (omega arith) ∙ within_kind xs i

-- ---- who sits there

pub correct_of_map : {A B : Type 0} (f : A → B) (o : Option (Option A)) → correct_in (option_map (option_map f) o) ≡ option_map f (correct_in o)
correct_of_map f None = refl
correct_of_map f (Some None) = refl
correct_of_map f (Some (Some x)) = refl

pub sits_in_map : {A B : Type 0} (f : A → B) (xs : List (Option A)) (i : ℕ) → correct_in (slice_get (map (option_map f) xs) i) ≡ option_map f (correct_in (slice_get xs i))
sits_in_map {A = A} {B = B} f xs i = ap (λ (o : Option (Option B)). correct_in o) (slice_get-map (option_map f) xs i) ∙ correct_of_map f (slice_get xs i)
