-- Who signed, in lists of signed statements.
use Rattle.std.specs.Prelude.{◌≢◌, AllPairs, Bool, false, not, nat_eq, ◌||◌, List, [], ◌∷◌}
use Rattle.std.specs.List.{list_any}
use Rattle.zy_base.specs.declared.ids.Party.{Party}
use Rattle.zy_base.specs.declared.ids.Party.TheVariants.{Replica, Client}
use Rattle.zy_parts.specs.declared.signed.Signed.{Signed}

abbrev pub same_party : Party → Party → Bool
same_party (Replica a) (Replica b) = nat_eq a.0 b.0
same_party (Replica a) (Client b) = false
same_party (Client a) (Replica b) = false
same_party (Client a) (Client b) = nat_eq a.0 b.0

-- one of the statements is this party's
abbrev pub has_signer : {S : Type 0} → Party → List (Signed S) → Bool
has_signer by list = list_any (λ s. same_party s.by by) list

-- two of the statements are one party's
abbrev pub has_repeat : {S : Type 0} → List (Signed S) → Bool
has_repeat [] = false
has_repeat (first ∷ others) = has_signer first.by others || has_repeat others

-- no two of the statements are one party's
abbrev pub AreDifferent : {S : Type 0} → List (Signed S) → Type 0
AreDifferent list = AllPairs (λ a b. a.by ≢ b.by) list

-- one of the statements is another than this
abbrev pub has_other : {S : Type 0} → (S → S → Bool) → S → List (Signed S) → Bool
has_other same stmt list = list_any (λ s. not (same s.stmt stmt)) list
