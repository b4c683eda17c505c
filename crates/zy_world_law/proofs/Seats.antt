-- What stands in the seats after one of them changed.
use Rattle.std.proofs.Common.{◌≡◌, ◌≢◌, ℕ, suc, zero, List, [], ◌∷◌, set, Option, Some, None, refl, ap}
use Rattle.std.specs.Prelude.{slice_get}
use Rattle.zy_world_law.specs.World.{correct_in}

pub get_set : {A : Type 0} (xs : List A) (i : ℕ) (x y : A) → slice_get xs i ≡ Some y → slice_get (set xs i x) i ≡ Some x
get_set [] i x y is = absurd cc
get_set (first ∷ xs) zero x y is = refl
get_set (first ∷ xs) (suc i) x y is = get_set xs i x y is

pub get_set_other : {A : Type 0} (xs : List A) (i j : ℕ) (x : A) → j ≢ i → slice_get (set xs i x) j ≡ slice_get xs j
get_set_other [] i j x other = refl
get_set_other (first ∷ xs) zero zero x other = absurd (other refl)
get_set_other (first ∷ xs) zero (suc j) x other = refl
get_set_other (first ∷ xs) (suc i) zero x other = refl
get_set_other (first ∷ xs) (suc i) (suc j) x other = get_set_other xs i j x (λ same. other (ap suc same))

-- a seat that is taken
pub seat_of : {A : Type 0} (o : Option (Option A)) (x : A) → correct_in o ≡ Some x → o ≡ Some (Some x)
seat_of {A = A} None x is = absurd cc
seat_of {A = A} (Some seat) x is = ap (λ (s : Option A). Some s) is
