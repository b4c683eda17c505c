-- What was done of the first items of a list, and what is left to do.
use Rattle.std.proofs.Common.{◌≡◌, ◌∷◌, [], ◌++◌, List, length, refl, ap, ◌∙◌, sym}
use Rattle.std.proofs.lemmas.List.{append_assoc, append-nil}

-- an item that goes over from what is left
pub moved : {A : Type 0} (front : List A) (x : A) (rest all : List A) → front ++ x ∷ rest ≡ all → (front ++ x ∷ []) ++ rest ≡ all
moved front x rest all is = append_assoc front (x ∷ []) rest ∙ is

-- nothing is left
pub none_left : {A : Type 0} (rest : List A) → length rest ≡ 0 → rest ≡ []
none_left [] is = refl
none_left (x ∷ rest) is = cc

-- and so all was told
pub all_told : {A B : Type 0} (front : List A) (f : List B → List A) (rest : List B) (all : List A) → f [] ≡ [] → front ++ f rest ≡ all → length rest ≡ 0 → front ≡ all
all_told {A = A} front f rest all ends is empty = sym (append-nil front) ∙ ap (λ (xs : List A). front ++ xs) (sym ends ∙ ap f (sym (none_left rest empty))) ∙ is
