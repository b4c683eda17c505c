-- What is told, and what holds of it.
use Rattle.std.proofs.Common.{◌≡◌, Option, Some, None, IfSome, is_some, false, refl, sym, ◌∙◌, ap, subst}

pub if_some : {A : Type 0} (told : Option A) (P : A → Type 0) → ((x : A) → told ≡ Some x → P x) → IfSome told P
if_some None P each = tt
if_some (Some x) P each = each x refl

pub some_is : {A : Type 0} (x y : A) → Some x ≡ Some y → x ≡ y
some_is x y e = cc

pub from_some : {A : Type 0} (told : Option A) (P : A → Type 0) (x : A) → IfSome told P → told ≡ Some x → P x
from_some None P x holds e = absurd cc
from_some (Some y) P x holds e = subst P (some_is y x e) holds

-- what is told after a call was told before it
pub was_told : {A B : Type 0} (before : Option B) (after : Option A) (x : A) → is_some after ≡ is_some before → after ≡ Some x → (y : B) × (before ≡ Some y)
was_told None after x stays e = let none : is_some (Some x) ≡ false = ap is_some (sym e) ∙ stays in absurd cc
was_told (Some y) after x stays e = (y, refl)
