-- Votes stay in the order of their signers, with one more and with fewer.
use Rattle.std.proofs.Common.{◌≡◌, ◌≢◌, ℕ, suc, ◌+◌, ◌≤◌, Bool, true, false, not, cond, nat_lt, List, [], ◌∷◌, take, drop, length, All, Some, None, unwrap_or, position, get_or, refl, arith}
use Rattle.std.specs.List.{insert}
use Rattle.std.specs.List.Sorted.{IsPermutation}
use Rattle.std.proofs.lemmas.Bool.{cond_both, ltb-false}
use Rattle.std.proofs.lemmas.Bool.Decides.{nat_tests}
use Rattle.std.proofs.lemmas.List.Elements.{All-nil, All-cons, All-tail, All-append, All-take, All-drop, All-weaker, All-filter}
use Rattle.std.proofs.lemmas.List.Kept.{AllPairs-cons, AllPairs-filter}
use Rattle.std.proofs.lemmas.List.Sorted.{IsPermutation-insert}
use Rattle.std.proofs.lemmas.List.Sums.{prefix_len-le-length, sum_by-insert}
use Rattle.zy_base.specs.declared.ids.Party.{Party}
use Rattle.zy_base.specs.declared.ids.Party.TheVariants.{Replica, Client}
use Rattle.zy_parts.specs.declared.signed.Signed.{Signed}
use Rattle.zy_cert.specs.Signers.{has_signer, AreDifferent}
use Rattle.zy_cert.proofs.SignerLemmas.{no_signer}
use Rattle.zy_check.specs.Votes.{comes_before, place_for, put_vote, equal_to, only, IsRising}

-- ---- the order of parties

lt_flip : (m n : ℕ) → nat_lt m n ≡ false → (n ≡ m → ⊥) → nat_lt n m ≡ true
lt_flip m n e ne = grind (arith, nat_tests)

lt_trans : (m n k : ℕ) → nat_lt m n ≡ true → nat_lt n k ≡ true → nat_lt m k ≡ true
lt_trans m n k e f = grind (arith, nat_tests)

lt_self : (n : ℕ) → nat_lt n n ≡ true → ⊥
lt_self n e = grind (arith, nat_tests)

behind : (a b : Party) → comes_before a b ≡ false → b ≢ a → comes_before b a ≡ true
behind (Replica a) (Replica b) e ne =
    lt_flip a.0 b.0 e (λ same. ne (let equal : Replica (record { 0 = b.0 }) ≡ Replica (record { 0 = a.0 }) = cc in equal))
behind (Replica a) (Client b) e ne = absurd cc
behind (Client a) (Replica b) e ne = refl
behind (Client a) (Client b) e ne =
    lt_flip a.0 b.0 e (λ same. ne (let equal : Client (record { 0 = b.0 }) ≡ Client (record { 0 = a.0 }) = cc in equal))

before-before : (a b c : Party) → comes_before a b ≡ true → comes_before b c ≡ true → comes_before a c ≡ true
before-before (Replica a) (Replica b) (Replica c) e f = lt_trans a.0 b.0 c.0 e f
before-before (Replica a) (Replica b) (Client c) e f = refl
before-before (Replica a) (Client b) (Replica c) e f = absurd cc
before-before (Replica a) (Client b) (Client c) e f = refl
before-before (Client a) (Replica b) c e f = absurd cc
before-before (Client a) (Client b) (Replica c) e f = absurd cc
before-before (Client a) (Client b) (Client c) e f = lt_trans a.0 b.0 c.0 e f

not_before_itself : (a : Party) → comes_before a a ≡ true → ⊥
not_before_itself (Replica a) e = lt_self a.0 e
not_before_itself (Client a) e = lt_self a.0 e

-- the index of the first that passes a test, or the length
first_or_len : (n len : ℕ) → n ≤ len → unwrap_or (cond (nat_lt n len) (Some n) None) len ≡ n
first_or_len n len within =
    cond_both (nat_lt n len) (Some n) None (λ r. unwrap_or r len ≡ n) (λ less. refl) (λ not_less. let least = ltb-false n len not_less in omega arith)

module _ {S : Type 0} where
  -- ---- one more

  pub place_for-within : (by : Party) (list : List (Signed S)) → place_for by list ≤ length list
  place_for-within by list = prefix_len-le-length (λ s. not (comes_before by s.by)) list

  pub place_for-first : (by : Party) (list : List (Signed S)) → unwrap_or (position (λ s. comes_before by s.by) list) (length list) ≡ place_for by list
  place_for-first by list = first_or_len (place_for by list) (length list) (place_for-within by list)

  here_by : (before : Bool) (n : ℕ) (vote first : Signed S) (others : List (Signed S)) → before ≡ true → insert (first ∷ others) (cond (not before) (1 + n) 0) vote ≡ vote ∷ first ∷ others
  here_by true n vote first others e = refl
  here_by false n vote first others e = absurd cc

  later_by : (before : Bool) (n : ℕ) (vote first : Signed S) (others : List (Signed S)) → before ≡ false → insert (first ∷ others) (cond (not before) (1 + n) 0) vote ≡ first ∷ insert others n vote
  later_by true n vote first others e = absurd cc
  later_by false n vote first others e = let one_more : 1 + n ≡ suc n = omega arith in rw one_more refl

  put-here : (vote first : Signed S) (others : List (Signed S)) → comes_before vote.by first.by ≡ true → put_vote vote (first ∷ others) ≡ vote ∷ first ∷ others
  put-here vote first others e = here_by (comes_before vote.by first.by) (place_for vote.by others) vote first others e

  put-later : (vote first : Signed S) (others : List (Signed S)) → comes_before vote.by first.by ≡ false → put_vote vote (first ∷ others) ≡ first ∷ put_vote vote others
  put-later vote first others e = later_by (comes_before vote.by first.by) (place_for vote.by others) vote first others e

  pub All-put : (P : Signed S → Type 0) (vote : Signed S) (list : List (Signed S)) → All P list → P vote → All P (put_vote vote list)
  All-put P vote list all holds =
      let at = place_for vote.by list in
      All-append P (take at list) (vote ∷ drop at list) (All-take P at list all) (All-cons P vote (drop at list) holds (All-drop P at list all))

  pub put-permutes : (vote : Signed S) (list : List (Signed S)) → IsPermutation (vote ∷ list) (put_vote vote list)
  put-permutes vote list = IsPermutation-insert list (place_for vote.by list) vote

  first-rising : (first : Signed S) (others : List (Signed S)) → IsRising (first ∷ others) → All (λ s. comes_before first.by s.by ≡ true) others
  first-rising first others rising k d small = rising 0 (suc k) d (omega arith) (omega arith)

  others-rising : (first : Signed S) (others : List (Signed S)) → IsRising (first ∷ others) → IsRising others
  others-rising first others rising i j d before small = rising (suc i) (suc j) d (omega arith) (omega arith)

  cons-rising : (first : Signed S) (others : List (Signed S)) → All (λ s. comes_before first.by s.by ≡ true) others → IsRising others → IsRising (first ∷ others)
  cons-rising first others all rising = AllPairs-cons (λ a b. comes_before a.by b.by ≡ true) first others all rising

  put-rising_by : (before : Bool) (vote first : Signed S) (others : List (Signed S)) → comes_before vote.by first.by ≡ before → IsRising (first ∷ others) → All (λ s. s.by ≢ vote.by) (first ∷ others) → IsRising (put_vote vote others)
      → IsRising (put_vote vote (first ∷ others))
  put-rising_by true vote first others e rising new later =
      let after = All-weaker (λ s. comes_before first.by s.by ≡ true) (λ s. comes_before vote.by s.by ≡ true) (λ s follows. before-before vote.by first.by s.by e follows) others (first-rising first others rising) in
      rw (put-here vote first others e) (cons-rising vote (first ∷ others) (All-cons (λ s. comes_before vote.by s.by ≡ true) first others e after) rising)
  put-rising_by false vote first others e rising new later =
      let mine = behind vote.by first.by e (new 0 first (omega arith)) in
      rw (put-later vote first others e) (cons-rising first (put_vote vote others) (All-put (λ s. comes_before first.by s.by ≡ true) vote others (first-rising first others rising) mine) later)

  put-rising_new : (vote : Signed S) (list : List (Signed S)) → IsRising list → All (λ s. s.by ≢ vote.by) list → IsRising (put_vote vote list)
  put-rising_new vote [] rising new = cons-rising vote [] (All-nil (λ s. comes_before vote.by s.by ≡ true)) rising
  put-rising_new vote (first ∷ others) rising new =
      put-rising_by _ vote first others refl rising new (put-rising_new vote others (others-rising first others rising) (All-tail (λ s. s.by ≢ vote.by) first others new))

  pub put-rising : (vote : Signed S) (list : List (Signed S)) → IsRising list → has_signer vote.by list ≡ false → IsRising (put_vote vote list)
  put-rising vote list rising new = put-rising_new vote list rising (no_signer vote.by list new)

  pub rising-different : (list : List (Signed S)) → IsRising list → AreDifferent list
  rising-different list rising i j d before small same =
      not_before_itself (get_or list j d).by (rw same at (rising i j d before small))

  -- ---- how many are equal, and those alone

  module _ (same : S → S → Bool) where
    pub equal_to-put : (own : S) (vote : Signed S) (list : List (Signed S)) → equal_to same own (put_vote vote list) ≡ equal_to same own list + cond (same vote.stmt own) 1 0
    equal_to-put own vote list = sum_by-insert (λ s. cond (same s.stmt own) 1 0) list (place_for vote.by list) vote

    pub only-rising : (stmt : S) (list : List (Signed S)) → IsRising list → IsRising (only same stmt list)
    only-rising stmt list rising = AllPairs-filter (λ a b. comes_before a.by b.by ≡ true) (λ s. same s.stmt stmt) list rising

    pub All-only : (P : Signed S → Type 0) (stmt : S) (list : List (Signed S)) → All P list → All P (only same stmt list)
    All-only P stmt list all = All-filter (λ s. same s.stmt stmt) P list all
