-- Reports that have what is agreed on, or what an anchor is.
use Rattle.std.proofs.Common.{◌≡◌, ℕ, zero, suc, ◌+◌, ◌<◌, ◌==◌, ◌&&◌, Bool, true, false, cond, List, [], ◌∷◌, length, filter, count_by, position, not, Some, None, subst, Any, refl, sym, arith}
use Rattle.std.proofs.lemmas.Bool.{and_parts, both_ways, cond-true, eqb-true, lt-ltb, true≢false}
use Rattle.std.proofs.lemmas.List.Sums.{sum_by-cons}
use Rattle.std.specs.List.{position_or_len}
use Rattle.zy_base.specs.declared.ids.Digest.{Digest}
use Rattle.zy_chain.specs.declared.entry.Entry.{Entry}
use Rattle.zy_chain.specs.Stretch.{Mark}
use Rattle.zy_choose.specs.Choice.{IsAgreed, last_in}
use Rattle.zy_choose.specs.Marks.{Has, has_mark}
use Rattle.zy_choose.specs.Reports.{PlainReport}
use Rattle.zy_choose.proofs.MarkLemmas.{has_mark-Has}

-- an element of the rest is one of the list
later : {X : Type 0} (P : X → Type 0) (x : X) (xs : List X) → Any P xs → Any P (x ∷ xs)
later P x xs (k, y, within, is, holds) = (suc k, y, omega arith, is, holds)

-- one that isn't the first is one of the rest
pub not_first : {X : Type 0} (P : X → Type 0) (x : X) (xs : List X) → (P x → ⊥) → Any P (x ∷ xs) → Any P xs
not_first P x xs other (zero, y, within, is, holds) = absurd (other (subst P (sym is) holds))
not_first P x xs other (suc k, y, within, is, holds) = (k, y, omega arith, is, holds)

not_counted : (told : Bool) (n : ℕ) → told ≡ false → 0 < cond told 1 0 + n → 0 < n
not_counted true n is some = absurd (true≢false is)
not_counted false n is some = omega arith

-- of a count that isn't 0 there is an element
counted : {X : Type 0} (q : X → Bool) (xs : List X) → 0 < count_by q xs → Any (λ x. q x ≡ true) xs
counted q [] some = absurd (omega arith)
counted q (x ∷ xs) some = by_test (q x) refl (counted q xs)
  where
    by_test : (told : Bool) → q x ≡ told → (0 < count_by q xs → Any (λ x. q x ≡ true) xs) → Any (λ x. q x ≡ true) (x ∷ xs)
    by_test true told others = (0, x, omega arith, refl, told)
    by_test false told others = later (λ x. q x ≡ true) x xs (others (not_counted (q x) (count_by q xs) told (rw sum_by-cons at some)))

-- an element of those that pass a test is one of all, and passes
pub of_filtered : {X : Type 0} (P : X → Type 0) (p : X → Bool) (xs : List X) → Any P (filter p xs) → Any (λ x. (p x ≡ true) × P x) xs
of_filtered P p [] any = absurd (omega (arith, any.2))
of_filtered P p (x ∷ xs) any = by_test (p x) refl any (of_filtered P p xs)
  where
    by_test : (told : Bool) → p x ≡ told → Any P (cond told (x ∷ filter p xs) (filter p xs)) → (Any P (filter p xs) → Any (λ x. (p x ≡ true) × P x) xs)
        → Any (λ x. (p x ≡ true) × P x) (x ∷ xs)
    by_test true told (zero, y, within, is, holds) others = (0, x, omega arith, refl, (told, subst P (sym is) holds))
    by_test true told (suc k, y, within, is, holds) others = later (λ x. (p x ≡ true) × P x) x xs (others (k, y, omega arith, is, holds))
    by_test false told any others = later (λ x. (p x ≡ true) × P x) x xs (others any)

-- where an element passes, the first that does has a place in the list
position_within : {X : Type 0} (p : X → Bool) (xs : List X) → Any (λ x. p x ≡ true) xs → position_or_len p xs < length xs
position_within p [] any = absurd (omega (arith, any.2))
position_within p (x ∷ xs) any = by_test (p x) refl (position_within p xs)
  where
    by_test : (told : Bool) → p x ≡ told → (Any (λ x. p x ≡ true) xs → position_or_len p xs < length xs) → cond (not told) (1 + position_or_len p xs) 0 < length (x ∷ xs)
    by_test true told others = omega arith
    by_test false told others = let rest = others (not_first (λ x. p x ≡ true) x xs (both_ways (p x) told) any) in omega arith

pub position_there : {X : Type 0} (p : X → Bool) (xs : List X) → Any (λ x. p x ≡ true) xs → position p xs ≡ None → ⊥
position_there p xs any none =
    let there : position p xs ≡ Some (position_or_len p xs) = cond-true _ (Some (position_or_len p xs)) None (lt-ltb _ _ (position_within p xs any)) in
    cc

-- some report of the view has an agreed mark
pub agreed_has : (next : Digest → Entry → Digest) (agree view : ℕ) (reports : List PlainReport) (anchor m : Mark)
    → 0 < agree → IsAgreed next agree (last_in view reports) anchor m
    → Any (λ r. (r.last_view ≡ view) × Has next r.stretch anchor × Has next r.stretch m) reports
agreed_has next agree view reports anchor m some agreed =
    let (k, r, within, is, told) =
    of_filtered (λ r. (has_mark next r.stretch anchor && has_mark next r.stretch m) ≡ true) (λ (r : PlainReport). r.last_view == view) reports
    (counted (λ r. has_mark next r.stretch anchor && has_mark next r.stretch m) (last_in view reports) (omega arith)) in
    let both = and_parts (has_mark next r.stretch anchor) (has_mark next r.stretch m) told.1 in
    (k, r, within, is, (eqb-true r.last_view view told.0, has_mark-Has next r.stretch anchor both.0, has_mark-Has next r.stretch m both.1))
