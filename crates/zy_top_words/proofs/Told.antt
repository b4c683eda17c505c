-- What is told of, and what follows of it.
use Rattle.std.proofs.Common.{Option, Some, None, IfSome}

pub both : {A : Type 0} {P Q R : A → Type 0} (told : Option A) → ((x : A) → P x → Q x → R x) → IfSome told P → IfSome told Q → IfSome told R
both None gives p q = tt
both (Some x) gives p q = gives x p q

pub each : {A : Type 0} {P Q : A → Type 0} (told : Option A) → ((x : A) → P x → Q x) → IfSome told P → IfSome told Q
each None gives p = tt
each (Some x) gives p = gives x p
