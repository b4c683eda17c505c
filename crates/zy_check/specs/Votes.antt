-- Signed statements of one kind, each of another signer, by rising numbers of their signers.
use Rattle.std.specs.Prelude.{◌≡◌, ℕ, Bool, true, false, nat_lt, List, AllPairs, insert, count_by, filter, Option, unwrap_or}
use Rattle.std.specs.List.{position_or_len}
use Rattle.zy_base.specs.declared.ids.Party.{Party}
use Rattle.zy_base.specs.declared.ids.Party.TheVariants.{Replica, Client}
use Rattle.zy_parts.specs.declared.signed.Signed.{Signed}

-- replicas by their numbers, and clients behind them
abbrev pub comes_before : Party → Party → Bool
comes_before (Replica a) (Replica b) = nat_lt a.0 b.0
comes_before (Replica a) (Client b) = true
comes_before (Client a) (Replica b) = false
comes_before (Client a) (Client b) = nat_lt a.0 b.0

-- where a party's statement belongs: before the first of a party behind it
abbrev pub place_for : {S : Type 0} → Party → List (Signed S) → ℕ
place_for by list = position_or_len (λ s. comes_before by s.by) list

-- with one more statement
abbrev pub put_vote : {S : Type 0} → Signed S → List (Signed S) → List (Signed S)
put_vote vote list = insert list (place_for vote.by list) vote

-- how many are equal to a statement
abbrev pub equal_to : {S : Type 0} → (S → S → Bool) → S → List (Signed S) → ℕ
equal_to same stmt list = count_by (λ s. same s.stmt stmt) list

-- those that are equal to a statement
abbrev pub only : {S : Type 0} → (S → S → Bool) → S → List (Signed S) → List (Signed S)
only same stmt list = filter (λ s. same s.stmt stmt) list

-- each signer comes before those behind it: so no two statements are one party's
abbrev pub IsRising : {S : Type 0} → List (Signed S) → Type 0
IsRising list = AllPairs (λ a b. comes_before a.by b.by ≡ true) list

-- inner form: so many are equal to the statement that is counted, or to any where none is
abbrev pub IsTallied : {S : Type 0} → (S → S → Bool) → List (Signed S) → Option S → ℕ → Type 0
IsTallied {S} same list counted number = (stmt : S) → number ≡ equal_to same (unwrap_or counted stmt) list
