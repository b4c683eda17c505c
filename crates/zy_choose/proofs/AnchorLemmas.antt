-- The marks that reports prove, as one list; the anchor and the provider out of it.
use Rattle.std.proofs.Common.{◌≡◌, ℕ, zero, suc, ◌+◌, ◌<◌, ◌≤◌, ◌==◌, Bool, true, false, cond, List, [], ◌∷◌, ◌++◌, length, length-append, map, filter, inl, inr, All, Any, Contains, get_or, replicate, refl, subst, arith}
use Rattle.std.proofs.lemmas.Bool.{eqb-true, eqb-false}
use Rattle.std.proofs.lemmas.List.{get_or_append_left, get_or-append-add}
use Rattle.std.proofs.lemmas.List.Elements.{Contains-append_cases}
use Rattle.std.specs.List.{flat_map}
use Rattle.zy_base.specs.declared.ids.Digest.{Digest}
use Rattle.zy_chain.specs.Stretch.{Mark}
use Rattle.zy_choose.specs.Choice.{IsAnchor, IsClash, IsGreatestView, IsOnlyAnchor, heads_in, last_in}
use Rattle.zy_choose.specs.Furthest.{IsOne, IsTwo}
use Rattle.zy_choose.proofs.ChoiceLemmas.{not_first}
use Rattle.zy_choose.specs.Reports.{PlainReport, proven}

-- a mark in the list is one that a report proves
proves : (reports : List PlainReport) (m : Mark) → Contains (flat_map proven reports) m → Any (λ r. Contains (proven r) m) reports
proves [] m (k, within, is) = absurd (omega arith)
proves (r ∷ reports) m among =
    elim (Contains-append_cases (proven r) (flat_map proven reports) m among) [
      | inl here ↦ (0, r, omega arith, refl, here)
      | inr there ↦ (let (k, x, within, is, holds) = proves reports m there in (suc k, x, omega arith, is, holds))
    ]

-- what holds of two lists put together holds of the first
all_left : (P : Mark → Type 0) (xs ys : List Mark) → All P (xs ++ ys) → All P xs
all_left P xs ys all = λ k d within. subst P (get_or_append_left xs ys d k within) (all k d (omega (arith, length-append xs ys)))

-- and of the second
all_right : (P : Mark → Type 0) (xs ys : List Mark) → All P (xs ++ ys) → All P ys
all_right P xs ys all = λ k d within. subst P (get_or-append-add xs ys k d) (all (length xs + k) d (omega (arith, length-append xs ys)))

-- what holds of all of the list holds of what each report proves
all_proven : (P : Mark → Type 0) (reports : List PlainReport) → All P (flat_map proven reports) → All (λ r. All P (proven r)) reports
all_proven P [] all k r within = absurd (omega arith)
all_proven P (r ∷ reports) all zero d within = all_left P (proven r) (flat_map proven reports) all
all_proven P (r ∷ reports) all (suc k) d within = all_proven P reports (all_right P (proven r) (flat_map proven reports) all) k d (omega arith)

-- the marks of a list, without the first
contains_later : (m x : Mark) (marks : List Mark) → Contains marks x → Contains (m ∷ marks) x
contains_later m x marks (k, within, is) = (suc k, omega arith, is)

same_mark : (m : Mark) (place : ℕ) (head : Digest) → m.place ≡ place → m.head ≡ head → m ≡ record { place = place; head = head }
same_mark m place head here same = λ i. record { place = here i; head = same i }

-- the first head at a place is that of a mark
stands : (place : ℕ) (head : Digest) (rest : List Digest) (marks : List Mark) → heads_in place marks ≡ head ∷ rest → Contains marks (record { place = place; head = head })
stands place head rest [] heads = cc
stands place head rest (m ∷ marks) heads = by_test (m.place == place) refl heads (stands place head rest marks)
  where
    by_test : (told : Bool) → (m.place == place) ≡ told
        → map (λ (m : Mark). m.head) (cond told (m ∷ filter (λ m. m.place == place) marks) (filter (λ m. m.place == place) marks)) ≡ head ∷ rest
        → (heads_in place marks ≡ head ∷ rest → Contains marks (record { place = place; head = head }))
        → Contains (m ∷ marks) (record { place = place; head = head })
    by_test true here heads others =
        let same : m.head ≡ head = cc in
        (0, omega arith, same_mark m place head (eqb-true m.place place here) same)
    by_test false elsewhere heads others = contains_later m (record { place = place; head = head }) marks (others heads)

-- where all heads at a place are one, each mark there has it
alone : (place : ℕ) (head : Digest) (n : ℕ) (marks : List Mark) → heads_in place marks ≡ replicate n head
    → All (λ m. m.place ≡ place → m ≡ record { place = place; head = head }) marks
alone place head n [] heads k d within = absurd (omega arith)
alone place head n (m ∷ marks) heads k d within = by_test (m.place == place) refl n heads (λ n. alone place head n marks) k within
  where
    by_test : (told : Bool) → (m.place == place) ≡ told → (n : ℕ)
        → map (λ (m : Mark). m.head) (cond told (m ∷ filter (λ m. m.place == place) marks) (filter (λ m. m.place == place) marks)) ≡ replicate n head
        → ((n : ℕ) → heads_in place marks ≡ replicate n head → All (λ m. m.place ≡ place → m ≡ record { place = place; head = head }) marks)
        → (k : ℕ) → k < length (m ∷ marks) → (get_or (m ∷ marks) k d).place ≡ place → get_or (m ∷ marks) k d ≡ record { place = place; head = head }
    by_test true here zero heads others k within at = cc
    by_test true here (suc n) heads others zero within at = let same : m.head ≡ head = cc in same_mark m place head at same
    by_test true here (suc n) heads others (suc k) within at = let rest : heads_in place marks ≡ replicate n head = cc in others n rest k d (omega arith) at
    by_test false elsewhere n heads others zero within at = absurd (eqb-false m.place place elsewhere at)
    by_test false elsewhere n heads others (suc k) within at = others n heads k d (omega arith) at

-- a report with the greatest last view proves a mark
pub some_proven : (view : ℕ) (reports : List PlainReport) → Any (λ r. r.last_view ≡ view) reports → flat_map proven (last_in view reports) ≡ [] → ⊥
some_proven view [] any none = absurd (omega (arith, any.2))
some_proven view (r ∷ reports) any none = by_test (r.last_view == view) refl none (some_proven view reports)
  where
    by_test : (told : Bool) → (r.last_view == view) ≡ told → flat_map proven (cond told (r ∷ last_in view reports) (last_in view reports)) ≡ []
        → (Any (λ r. r.last_view ≡ view) reports → flat_map proven (last_in view reports) ≡ [] → ⊥) → ⊥
    by_test true told none others = cc
    by_test false told none others = others (not_first (λ r. r.last_view ≡ view) r reports (eqb-false r.last_view view told) any) none

pub IsOne-anchor : (place : ℕ) (head : Digest) (reports : List PlainReport) → IsOne place head (flat_map proven reports) → IsAnchor reports (record { place = place; head = head })
IsOne-anchor place head reports one =
    record {
      proved = proves reports _ (stands place head (replicate one.again head) (flat_map proven reports) one.heads);
      furthest = all_proven (λ m. m.place ≤ place) reports one.furthest;
    }

pub IsOne-only : (place : ℕ) (head : Digest) (reports : List PlainReport) → IsOne place head (flat_map proven reports) → IsOnlyAnchor reports (record { place = place; head = head })
IsOne-only place head reports one =
    all_proven (λ m. m.place ≡ place → m ≡ record { place = place; head = head }) reports (alone place head (suc one.again) (flat_map proven reports) one.heads)

pub IsTwo-clash : (view place : ℕ) (first second : Digest) (reports : List PlainReport) → IsGreatestView reports view → IsTwo place first second (flat_map proven (last_in view reports)) → IsClash reports first second
IsTwo-clash view place first second reports greatest two =
    record {
      view = view;
      anchor = record { place = place; head = first };
      greatest = greatest;
      anchored = record {
        proved = proves (last_in view reports) _ (stands place first _ (flat_map proven (last_in view reports)) two.heads);
        furthest = all_proven (λ m. m.place ≤ place) (last_in view reports) two.furthest;
      };
      again = two.again;
      later = two.later;
      heads = two.heads;
      different = two.different;
    }
