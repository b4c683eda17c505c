-- Bytes in two pieces.
use Rattle.std.proofs.Common.{◌≡◌, ℕ, length, take, drop, Bool, true, false, ◌&&◌, List, [], ◌∷◌, ◌++◌, refl, ap, ◌∙◌}
use Rattle.std.specs.Prelude.{nat_eq}
use Rattle.std.specs.Str.{bytes_eq}

and_assoc : (a b c : Bool) → (a && (b && c)) ≡ ((a && b) && c)
and_assoc true b c = refl
and_assoc false b c = refl

pub eq_joined : (front rest text : List ℕ) → bytes_eq text (front ++ rest) ≡ (bytes_eq (take (length front) text) front && bytes_eq (drop (length front) text) rest)
eq_joined [] rest text = refl
eq_joined (x ∷ front) rest [] = refl
eq_joined (x ∷ front) rest (y ∷ text) =
    ap (λ (b : Bool). nat_eq y x && b) (eq_joined front rest text) ∙ and_assoc (nat_eq y x) _ _
