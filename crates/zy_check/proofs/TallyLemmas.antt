-- A tally counts on.
use Rattle.std.proofs.Common.{◌≡◌, ℕ, ◌+◌, ◌≤◌, Bool, true, false, cond, List, [], ◌∷◌, length, Option, Some, None, unwrap_or, refl, sym, ap, ◌∙◌, arith}
use Rattle.std.specs.List.{count_by, filter}
use Rattle.std.proofs.lemmas.Bool.{cond-true}
use Rattle.std.proofs.lemmas.List.Sums.{length-filter, count_by-le-length}
use Rattle.zy_parts.specs.declared.signed.Signed.{Signed}
use Rattle.zy_check.specs.Votes.{put_vote, equal_to, only, IsTallied}
use Rattle.zy_check.proofs.VoteLemmas.{equal_to-put}

-- those that pass a test pass it again
again_by : {X : Type 0} (p : X → Bool) (passes : Bool) (x : X) (others : List X) → p x ≡ passes → filter p others ≡ others → filter p (cond passes (x ∷ others) others) ≡ cond passes (x ∷ others) others
again_by p true x others e same = cond-true _ _ _ e ∙ ap (λ l. x ∷ l) same
again_by p false x others e same = same

passed-again : {X : Type 0} (p : X → Bool) (xs : List X) → filter p (filter p xs) ≡ filter p xs
passed-again p [] = refl
passed-again p (x ∷ xs) = again_by p (p x) x (filter p xs) refl (passed-again p xs)

module _ {S : Type 0} (same : S → S → Bool) where
  pub tallied-put : (vote : Signed S) (list : List (Signed S)) (counted : Option S) (number : ℕ) → IsTallied same list counted number
      → IsTallied same (put_vote vote list) (Some (unwrap_or counted vote.stmt)) (number + cond (same vote.stmt (unwrap_or counted vote.stmt)) 1 0)
  tallied-put vote list counted number is stmt =
      let first = unwrap_or counted vote.stmt in
      ap (λ n. n + cond (same vote.stmt first) 1 0) (is vote.stmt) ∙ sym (equal_to-put same first vote list)

  pub tallied-only : (stmt : S) (list : List (Signed S)) → IsTallied same (only same stmt list) (Some stmt) (length (only same stmt list))
  tallied-only stmt list other =
      let test : Signed S → Bool = λ s. same s.stmt stmt in
      sym (ap length (passed-again test list)) ∙ length-filter test (only same stmt list)

  pub tallied-few : (list : List (Signed S)) (counted : Option S) (number : ℕ) (stmt : S) → IsTallied same list counted number → number ≤ length list
  tallied-few list counted number stmt is = omega (arith, is stmt, count_by-le-length (λ (s : Signed S). same s.stmt (unwrap_or counted stmt)) list)

  pub equal-few : (stmt : S) (list : List (Signed S)) → equal_to same stmt list ≤ length list
  equal-few stmt list = count_by-le-length (λ (s : Signed S). same s.stmt stmt) list
