-- The choice over reports has one answer.
use Rattle.std.proofs.Common.{◌≡◌, ◌≢◌, ℕ, zero, suc, ◌+◌, ◌*◌, ◌<◌, ◌≤◌, ◌==◌, ◌&&◌, Bool, true, false, cond, List, [], ◌∷◌, ◌++◌, length, map, filter, count_by, All, Any, replicate, refl, ap, sym, subst, ◌∙◌, arith}
use Rattle.std.proofs.lemmas.Bool.{and_parts, eqb-true}
use Rattle.std.proofs.lemmas.List.Elements.{All-append}
use Rattle.std.proofs.lemmas.List.Sums.{sum_by-cons, length-filter, count_by-le-length}
use Rattle.std.specs.List.{flat_map}
use Rattle.zy_base.specs.declared.ids.Digest.{Digest}
use Rattle.zy_chain.specs.declared.entry.Entry.{Entry}
use Rattle.zy_chain.specs.Stretch.{Mark}
use Rattle.zy_choose.specs.declared.choice.Choice.{Choice}
use Rattle.zy_choose.specs.declared.choice.Choice.TheVariants.{Chosen, AnchorClash}
use Rattle.zy_choose.specs.Answer.{IsAnswer}
use Rattle.zy_choose.specs.Choice.{IsAgreed, IsAnchor, IsChosen, IsClash, IsGreatestView, IsOnlyAnchor, IsPicked, heads_in, last_in}
use Rattle.zy_choose.specs.Choice.IsPicked.{agreed, anchored}
use Rattle.zy_choose.specs.Marks.{has_mark, link}
use Rattle.zy_choose.specs.Reports.{PlainReport, proven}
use Rattle.zy_choose.proofs.MarkLemmas.{Has-one, has_mark-Has}

-- two tests that pass more often than there are elements pass at one of them
overlap : {X : Type 0} (p q : X → Bool) (xs : List X) → length xs < count_by p xs + count_by q xs → Any (λ x. (p x ≡ true) × (q x ≡ true)) xs
overlap p q [] more = absurd (omega arith)
overlap p q (x ∷ xs) more = by_tests (p x) (q x) refl refl (rw (sum_by-cons, sum_by-cons) at more) (overlap p q xs)
  where
    by_tests : (a b : Bool) → p x ≡ a → q x ≡ b → length (x ∷ xs) < cond a 1 0 + count_by p xs + (cond b 1 0 + count_by q xs)
        → (length xs < count_by p xs + count_by q xs → Any (λ x. (p x ≡ true) × (q x ≡ true)) xs) → Any (λ x. (p x ≡ true) × (q x ≡ true)) (x ∷ xs)
    by_tests true true a b more others = (0, x, omega arith, refl, (a, b))
    by_tests true false a b more others = let (k, y, within, is, holds) = others (omega arith) in (suc k, y, omega arith, is, holds)
    by_tests false true a b more others = let (k, y, within, is, holds) = others (omega arith) in (suc k, y, omega arith, is, holds)
    by_tests false false a b more others = let (k, y, within, is, holds) = others (omega arith) in (suc k, y, omega arith, is, holds)

pub one_view : (reports : List PlainReport) (v w : ℕ) → IsGreatestView reports v → IsGreatestView reports w → v ≡ w
one_view reports v w first second =
    let (k, r, within, is, last) = first.told in
    let (i, x, inside, at, ends) = second.told in
    let below : v ≤ w = rw last at (rw is at (second.greatest k r within)) in
    let above : w ≤ v = rw ends at (rw at at (first.greatest i x inside)) in
    omega arith

one_place : (reports : List PlainReport) (a b : Mark) → IsAnchor reports a → IsAnchor reports b → a.place ≤ b.place
one_place reports a b first second =
    let (k, r, within, is, (i, inside, at)) = first.proved in
    let furthest = subst (λ (r : PlainReport). All (λ m. m.place ≤ b.place) (proven r)) is (second.furthest k r within) in
    subst (λ (m : Mark). m.place ≤ b.place) at (furthest i a inside)

-- an anchor's only mark at the place is the other anchor
pub one_anchor : (reports : List PlainReport) (a b : Mark) → IsAnchor reports a → IsAnchor reports b → IsOnlyAnchor reports a → b ≡ a
one_anchor reports a b first second only =
    let (k, r, within, is, (i, inside, at)) = second.proved in
    let here = subst (λ (r : PlainReport). All (λ m. m.place ≡ a.place → m ≡ a) (proven r)) is (only k r within) in
    let below = one_place reports a b first second in
    let above = one_place reports b a second first in
    subst (λ (m : Mark). m.place ≡ a.place → m ≡ a) at (here i b inside) (omega arith)

-- two marks of one place that enough reports agree on
one_agreed : (next : Digest → Entry → Digest) (agree : ℕ) (reports : List PlainReport) (anchor a b : Mark) → length reports < 2 * agree
    → IsAgreed next agree reports anchor a → IsAgreed next agree reports anchor b → a.place ≡ b.place → a ≡ b
one_agreed next agree reports anchor a b few first second same =
    let (k, r, within, is, told) =
    overlap (λ r. has_mark next r.stretch anchor && has_mark next r.stretch a) (λ r. has_mark next r.stretch anchor && has_mark next r.stretch b) reports (omega arith) in
    let has = and_parts (has_mark next r.stretch anchor) (has_mark next r.stretch a) told.0 in
    let other = and_parts (has_mark next r.stretch anchor) (has_mark next r.stretch b) told.1 in
    Has-one next r.stretch a b (has_mark-Has next r.stretch a has.1) (has_mark-Has next r.stretch b other.1) same

pub one_picked : (next : Digest → Entry → Digest) (agree : ℕ) (reports : List PlainReport) (anchor a b : Mark) → length reports < 2 * agree
    → IsPicked next agree reports anchor a → IsPicked next agree reports anchor b → a ≡ b
one_picked next agree reports anchor a b few (agreed first furthest) (agreed second furthest') =
    let below = furthest b second in
    let above = furthest' a first in
    one_agreed next agree reports anchor a b few first second (omega arith)
one_picked next agree reports anchor a b few (agreed first furthest) (anchored nothing same) = absurd (nothing a first)
one_picked next agree reports anchor a b few (anchored nothing same) (agreed second furthest) = absurd (nothing b second)
one_picked next agree reports anchor a b few (anchored nothing same) (anchored nothing' same') = same ∙ sym same'

pub few_last_in : (agree view : ℕ) (reports : List PlainReport) → length reports < 2 * agree → length (last_in view reports) < 2 * agree
few_last_in agree view reports few =
    omega (arith, length-filter (λ (r : PlainReport). r.last_view == view) reports, count_by-le-length (λ (r : PlainReport). r.last_view == view) reports)

-- what follows one head in a list that begins with it
one_second : (first a b : Digest) (n m : ℕ) (more others : List Digest) → first ≢ a → first ≢ b → replicate n first ++ a ∷ more ≡ replicate m first ++ b ∷ others → a ≡ b
one_second first a b zero zero more others not_a not_b same = cc
one_second first a b zero (suc m) more others not_a not_b same = let is : first ≡ a = cc in absurd (not_a is)
one_second first a b (suc n) zero more others not_a not_b same = let is : first ≡ b = cc in absurd (not_b is)
one_second first a b (suc n) (suc m) more others not_a not_b same =
    let rest : replicate n first ++ a ∷ more ≡ replicate m first ++ b ∷ others = cc in one_second first a b n m more others not_a not_b rest

-- what holds of what each report proves holds of all of the list
all_flat : (P : Mark → Type 0) (reports : List PlainReport) → All (λ r. All P (proven r)) reports → All P (flat_map proven reports)
all_flat P [] all = λ k d within. absurd (omega arith)
all_flat P (r ∷ reports) all = All-append P (proven r) (flat_map proven reports) (all 0 r (omega arith)) (all_flat P reports (λ k d within. all (suc k) d (omega arith)))

-- the heads at a place where each mark has one head
all_heads : (place : ℕ) (head : Digest) (marks : List Mark) → All (λ m. m.place ≡ place → m.head ≡ head) marks → All (λ h. h ≡ head) (heads_in place marks)
all_heads place head [] all = λ k d within. absurd (omega arith)
all_heads place head (m ∷ marks) all = by_test (m.place == place) refl (all_heads place head marks (λ k d within. all (suc k) d (omega arith)))
  where
    by_test : (told : Bool) → (m.place == place) ≡ told → All (λ h. h ≡ head) (heads_in place marks)
        → All (λ h. h ≡ head) (map (λ (m : Mark). m.head) (cond told (m ∷ filter (λ m. m.place == place) marks) (filter (λ m. m.place == place) marks)))
    by_test true told others zero d within = all 0 m (omega arith) (eqb-true m.place place told)
    by_test true told others (suc k) d within = others k d (omega arith)
    by_test false told others k d within = others k d within

after_all : (head first second : Digest) (n : ℕ) (more : List Digest) → All (λ h. h ≡ head) (replicate n first ++ second ∷ more) → second ≡ head
after_all head first second zero more all = all 0 second (omega arith)
after_all head first second (suc n) more all = after_all head first second n more (λ k d within. all (suc k) d (omega arith))

-- at the place of an only anchor no second head stands
no_clash : (reports : List PlainReport) (first second : Digest) (anchor : Mark) (n : ℕ) (more : List Digest) → IsOnlyAnchor reports anchor
    → heads_in anchor.place (flat_map proven reports) ≡ first ∷ replicate n first ++ second ∷ more → first ≡ second
no_clash reports first second anchor n more only heads =
    let all = all_flat (λ m. m.place ≡ anchor.place → m ≡ anchor) reports only in
    let same = subst (λ hs. All (λ h. h ≡ anchor.head) hs) heads
    (all_heads anchor.place anchor.head (flat_map proven reports) (λ k d within here. ap (λ (m : Mark). m.head) (all k d within here))) in
    same 0 first (omega arith) ∙ sym (after_all anchor.head first second (suc n) more same)

-- a choice with one anchor, and two heads at the anchor's place
never_both : (agree : ℕ) (reports : List PlainReport) (provider : ℕ) (m : Mark) (first second : Digest) → IsChosen link agree reports provider m → IsClash reports first second → ⊥
never_both agree reports provider m first second chosen clash =
    let view = one_view reports clash.view chosen.choice.view clash.greatest chosen.choice.greatest in
    let anchored = subst (λ view. IsAnchor (last_in view reports) clash.anchor) view clash.anchored in
    let below = one_place (last_in chosen.choice.view reports) clash.anchor chosen.choice.anchor anchored chosen.choice.anchored in
    let above = one_place (last_in chosen.choice.view reports) chosen.choice.anchor clash.anchor chosen.choice.anchored anchored in
    let place : clash.anchor.place ≡ chosen.choice.anchor.place = omega arith in
    let heads = subst (λ view. heads_in clash.anchor.place (flat_map proven (last_in view reports)) ≡ first ∷ replicate clash.again first ++ second ∷ clash.later) view clash.heads in
    let here = subst (λ place. heads_in place (flat_map proven (last_in chosen.choice.view reports)) ≡ first ∷ replicate clash.again first ++ second ∷ clash.later) place heads in
    clash.different (no_clash (last_in chosen.choice.view reports) first second chosen.choice.anchor clash.again clash.later chosen.only here)

-- two choices
one_choice : (agree : ℕ) (reports : List PlainReport) (provider other : ℕ) (a b : Mark) → length reports < 2 * agree
    → IsChosen link agree reports provider a → IsChosen link agree reports other b → (provider ≡ other) × (a ≡ b)
one_choice agree reports provider other a b few first second =
    let view = one_view reports second.choice.view first.choice.view second.choice.greatest first.choice.greatest in
    let anchored = subst (λ view. IsAnchor (last_in view reports) second.choice.anchor) view second.choice.anchored in
    let anchor = one_anchor (last_in first.choice.view reports) first.choice.anchor second.choice.anchor first.choice.anchored anchored first.only in
    let picked = subst (λ view. IsPicked link agree (last_in view reports) second.choice.anchor b) view second.choice.picked in
    let past = subst (λ anchor. IsPicked link agree (last_in first.choice.view reports) anchor b) anchor picked in
    let same : a ≡ b = one_picked link agree (last_in first.choice.view reports) first.choice.anchor a b (few_last_in agree first.choice.view reports few) first.choice.picked past in
    let found = first.provided in
    let found' = second.provided in
    let provider_is : provider ≡ other = cc in
    (provider_is, same)

-- two clashes
one_clash : (reports : List PlainReport) (first second first' second' : Digest) → IsClash reports first second → IsClash reports first' second' → (first ≡ first') × (second ≡ second')
one_clash reports first second first' second' a b =
    let view = one_view reports b.view a.view b.greatest a.greatest in
    let anchored = subst (λ view. IsAnchor (last_in view reports) b.anchor) view b.anchored in
    let below = one_place (last_in a.view reports) b.anchor a.anchor anchored a.anchored in
    let above = one_place (last_in a.view reports) a.anchor b.anchor a.anchored anchored in
    let place : b.anchor.place ≡ a.anchor.place = omega arith in
    let heads = a.heads in
    let heads' = b.heads in
    let lists : first ∷ replicate a.again first ++ second ∷ a.later ≡ first' ∷ replicate b.again first' ++ second' ∷ b.later = cc in
    let is : first ≡ first' = cc in
    let rest : replicate a.again first ++ second ∷ a.later ≡ replicate b.again first' ++ second' ∷ b.later = cc in
    let later = subst (λ head. replicate a.again first ++ second ∷ a.later ≡ replicate b.again head ++ second' ∷ b.later) (sym is) rest in
    (is, one_second first second second' a.again b.again a.later b.later a.different (subst (λ head. head ≢ second') (sym is) b.different) later)

pub one_answer_lem : (agree : ℕ) (reports : List PlainReport) (a b : Choice) → length reports < 2 * agree → IsAnswer agree reports a → IsAnswer agree reports b → a ≡ b
one_answer_lem agree reports (Chosen provider place head) (Chosen provider' place' head') few a b =
    let (same, marks) = one_choice agree reports provider provider' (record { place = place.0; head = head }) (record { place = place'.0; head = head' }) few a b in
    let places : place ≡ place' = λ i. record { 0 = (marks i).place } in
    let heads : head ≡ head' = λ i. (marks i).head in
    cc
one_answer_lem agree reports (Chosen provider place head) (AnchorClash first second) few a b =
    absurd (never_both agree reports provider (record { place = place.0; head = head }) first second a b)
one_answer_lem agree reports (AnchorClash first second) (Chosen provider place head) few a b =
    absurd (never_both agree reports provider (record { place = place.0; head = head }) first second b a)
one_answer_lem agree reports (AnchorClash first second) (AnchorClash first' second') few a b =
    let (one, two) = one_clash reports first second first' second' a b in cc
