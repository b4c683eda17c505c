-- What a choice says of its reports, and what a true report says of its replica's history.
use Rattle.std.proofs.Common.{◌≡◌, ℕ, zero, suc, ◌+◌, ◌-◌, ◌≤◌, ◌==◌, Bool, true, false, cond, ◌&&◌, inl, inr, List, [], ◌∷◌, ◌++◌, length, take, drop, get_or, Option, Some, refl, sym, ap, ◌∙◌, subst, arith}
use Rattle.std.specs.Prelude.{Contains, Any, All, filter, count_by, fold, slice_get, option_to_list}
use Rattle.std.proofs.lemmas.Bool.{cases_Bool, and_parts, and_from, eqb-true, eq-eqb}
use Rattle.std.proofs.lemmas.List.{take-append-drop, take-take, drop-take, length-drop}
use Rattle.std.proofs.lemmas.List.Sums.{fold-append, sum_by-cons}
use Rattle.std.proofs.lemmas.Option.{slice_get_read, same_Some}
use Rattle.zy_base.specs.declared.ids.Digest.{Digest}
use Rattle.zy_chain.specs.declared.entry.Entry.{Entry}
use Rattle.zy_chain.specs.Heads.{empty_head}
use Rattle.zy_chain.specs.Stretch.{Mark, Stretch}
use Rattle.zy_choose.specs.Marks.{Has, has_mark}
use Rattle.zy_choose.specs.Reports.{PlainReport, proven}
use Rattle.zy_choose.proofs.ChoiceLemmas.{of_filtered}
use Rattle.zy_choose.proofs.MarkLemmas.{has_mark-Has, Has-has_mark}
use Rattle.zy_choose.proofs.ProviderLemmas.{proven_cases}
use Rattle.zy_choose.specs.Choice.{IsGreatestView, last_in, IsAnchor}
use Rattle.zy_law.specs.Histories.{Passes}
use Rattle.zy_law.proofs.CountLemmas.{bit}
use Rattle.zy_law.proofs.QuorumLemmas.{All_at}

-- ---- lists

filter_has : {A : Type 0} (p : A → Bool) (xs : List A) (j : ℕ) (x : A) → slice_get xs j ≡ Some x → p x ≡ true → (k : ℕ) × (slice_get (filter p xs) k ≡ Some x)
filter_has p [] j x at passes = absurd cc
filter_has {A} p (y ∷ xs) zero x at passes =
    let same : y ≡ x = same_Some y x at in
    let first : p y ≡ true = subst (λ (z : A). p z ≡ true) (sym same) passes in
    (0, ap (λ (b : Bool). slice_get (cond b (y ∷ filter p xs) (filter p xs)) 0) first ∙ at)
filter_has {A} p (y ∷ xs) (suc j) x at passes =
    let rest = filter_has p xs j x at passes in
    elim (cases_Bool (p y)) [
      | inl first ↦ (suc rest.0, ap (λ (b : Bool). slice_get (cond b (y ∷ filter p xs) (filter p xs)) (suc rest.0)) first ∙ rest.1)
      | inr first ↦ (rest.0, ap (λ (b : Bool). slice_get (cond b (y ∷ filter p xs) (filter p xs)) rest.0) first ∙ rest.1)
    ]

count_cons : {A : Type 0} (b : Bool) (q : A → Bool) (y : A) (rest : List A) → count_by q (cond b (y ∷ rest) rest) ≡ bit (b && q y) + count_by q rest
count_cons {A} true q y rest = sum_by-cons (λ (z : A). bit (q z)) y rest
count_cons false q y rest = omega arith

count_by-filter : {A : Type 0} (p q : A → Bool) (xs : List A) → count_by q (filter p xs) ≡ count_by (λ x. p x && q x) xs
count_by-filter p q [] = refl
count_by-filter {A} p q (y ∷ xs) =
    omega (arith, count_cons (p y) q y (filter p xs), count_by-filter p q xs, sum_by-cons (λ (z : A). bit (p z && q z)) y xs)

Any_at : {A : Type 0} (P : A → Type 0) (xs : List A) → Any P xs → (k : ℕ) × (x : A) × (slice_get xs k ≡ Some x) × P x
Any_at P xs any = (any.0, any.1, slice_get_read xs (length xs) any.0 any.1 refl any.2 (sym any.3), any.4)

-- ---- a choice

-- the mark that a report proves
pub data IsProvenBy (r : PlainReport) (m : Mark) : Type 0 where
  stable : m ≡ r.stretch.base → IsProvenBy r m
  began : m ≡ r.began → IsProvenBy r m
  spec : r.spec ≡ Some m → IsProvenBy r m

pub proven_by : (r : PlainReport) (m : Mark) → Contains (proven r) m → IsProvenBy r m
proven_by r m has =
    elim (proven_cases r m has) [
      | inl is ↦ stable is
      | inr (inl is) ↦ began is
      | inr (inr is) ↦ spec is
    ]

proven_place : (r : PlainReport) (m : Mark) → IsProvenBy r m → (k : ℕ) × (slice_get (proven r) k ≡ Some m)
proven_place r m (stable e) = (0, ap (λ (x : Mark). Some x) (sym e))
proven_place r m (began e) = (1, ap (λ (x : Mark). Some x) (sym e))
proven_place r m (spec e) = (2, ap (λ (o : Option Mark). slice_get (option_to_list o) 0) e)

-- a report of the list with this last view
pub record IsLastIn (reports : List PlainReport) (view : ℕ) (r : PlainReport) : Type 0 where
  pub place : ℕ
  pub at : slice_get reports place ≡ Some r
  pub last : r.last_view ≡ view

pub last_among : (view : ℕ) (reports : List PlainReport) (r : PlainReport) → Contains (last_in view reports) r → IsLastIn reports view r
last_among view reports r has =
    let (k, x, within, is, found) = of_filtered (λ (c : PlainReport). c ≡ r) (λ (c : PlainReport). c.last_view == view) reports (has.0, r, has.1, has.2, refl) in
    record {
      place = k;
      at = slice_get_read reports (length reports) k r refl within (sym (subst (λ (c : PlainReport). get_or reports k c ≡ c) found.1 is));
      last = eqb-true r.last_view view (subst (λ (c : PlainReport). (c.last_view == view) ≡ true) found.1 found.0);
    }

pub greatest_has : (reports : List PlainReport) (view : ℕ) → IsGreatestView reports view → (r : PlainReport) × IsLastIn reports view r
greatest_has reports view greatest =
    let one = Any_at (λ (r : PlainReport). r.last_view ≡ view) reports greatest.told in
    (one.1, record { place = one.0; at = one.2; last = one.3 })

pub greatest_of : (reports : List PlainReport) (view place : ℕ) (r : PlainReport) → IsGreatestView reports view → slice_get reports place ≡ Some r → r.last_view ≤ view
greatest_of reports view place r greatest at = All_at (λ (c : PlainReport). c.last_view ≤ view) reports place r at greatest.greatest

pub anchor_proven : (reports : List PlainReport) (view : ℕ) (m : Mark) → IsAnchor (last_in view reports) m → (r : PlainReport) × IsLastIn reports view r × IsProvenBy r m
anchor_proven reports view m anchor =
    let (k, r, within, is, proved) = anchor.proved in
    (r, last_among view reports r (k, within, is), proven_by r m proved)

pub anchor_furthest : (reports : List PlainReport) (view : ℕ) (m k : Mark) (r : PlainReport) → IsAnchor (last_in view reports) m → IsLastIn reports view r
    → IsProvenBy r k → k.place ≤ m.place
anchor_furthest reports view m k r anchor last proved =
    let kept = filter_has (λ (c : PlainReport). c.last_view == view) reports last.place r last.at (eq-eqb r.last_view view last.last) in
    let all = All_at (λ (c : PlainReport). All (λ other. other.place ≤ m.place) (proven c)) (last_in view reports) kept.0 r kept.1 anchor.furthest in
    let place = proven_place r k proved in
    All_at (λ (other : Mark). other.place ≤ m.place) (proven r) place.0 k place.1 all

-- whether a report has this last view, the anchor and the mark
pub supports : (Digest → Entry → Digest) → ℕ → Mark → Mark → PlainReport → Bool
supports next view anchor m r = (r.last_view == view) && (has_mark next r.stretch anchor && has_mark next r.stretch m)

pub supports_count : (next : Digest → Entry → Digest) (view : ℕ) (anchor m : Mark) (reports : List PlainReport)
    → count_by (λ r. has_mark next r.stretch anchor && has_mark next r.stretch m) (last_in view reports) ≡ count_by (supports next view anchor m) reports
unfolding supports
supports_count next view anchor m reports =
    count_by-filter (λ (r : PlainReport). r.last_view == view) (λ r. has_mark next r.stretch anchor && has_mark next r.stretch m) reports

pub supports_from : (next : Digest → Entry → Digest) (view : ℕ) (anchor m : Mark) (r : PlainReport) → r.last_view ≡ view → Has next r.stretch anchor → Has next r.stretch m
    → supports next view anchor m r ≡ true
unfolding supports
supports_from next view anchor m r last a b =
    and_from (r.last_view == view) _ (eq-eqb r.last_view view last) (and_from (has_mark next r.stretch anchor) _ (Has-has_mark next r.stretch anchor a) (Has-has_mark next r.stretch m b))

pub supports_has : (next : Digest → Entry → Digest) (view : ℕ) (anchor m : Mark) (r : PlainReport) → supports next view anchor m r ≡ true
    → (r.last_view ≡ view) × Has next r.stretch anchor × Has next r.stretch m
unfolding supports
supports_has next view anchor m r told =
    let one = and_parts (r.last_view == view) (has_mark next r.stretch anchor && has_mark next r.stretch m) told in
    let two = and_parts (has_mark next r.stretch anchor) (has_mark next r.stretch m) one.1 in
    (eqb-true r.last_view view one.0, has_mark-Has next r.stretch anchor two.0, has_mark-Has next r.stretch m two.1)

-- ---- the stretch of a history above one of its marks

pub take_split : {A : Type 0} (a n : ℕ) (xs : List A) → a ≤ n → take n xs ≡ take a xs ++ take (n - a) (drop a xs)
take_split {A} a n xs order =
    let sum : n ≡ a + (n - a) = omega arith in
    let rest : drop a (take n xs) ≡ take (n - a) (drop a xs) = ap (λ (k : ℕ). drop a (take k xs)) sum ∙ drop-take a (n - a) xs in
    sym (take-append-drop a (take n xs)) ∙ ap (λ (l : List A). l ++ drop a (take n xs)) (take-take a n xs order) ∙ ap (λ (l : List A). take a xs ++ l) rest

module _ (next : Digest → Entry → Digest) (history : List Entry) (s : Stretch) (base : Passes next history s.base) (entries : s.entries ≡ drop s.base.place history) where
  heads_above : (m : Mark) → s.base.place ≤ m.place → fold next empty_head (take m.place history) ≡ fold next s.base.head (take (m.place - s.base.place) s.entries)
  heads_above m order =
      ap (λ (l : List Entry). fold next empty_head l) (take_split s.base.place m.place history order)
      ∙ fold-append next empty_head (take s.base.place history) (take (m.place - s.base.place) (drop s.base.place history))
      ∙ ap (λ (h : Digest). fold next h (take (m.place - s.base.place) (drop s.base.place history))) base.head
      ∙ ap (λ (l : List Entry). fold next s.base.head (take (m.place - s.base.place) l)) (sym entries)

  long_above : s.base.place + length s.entries ≡ length history
  long_above = omega (arith, base.within, length-drop s.base.place history, ap (λ (l : List Entry). length l) entries)

  pub passes_has : (m : Mark) → Has next s m → Passes next history m
  passes_has m has = record { within = omega (arith, has.below, long_above); head = heads_above m has.above ∙ has.head }

  pub has_passes : (m : Mark) → s.base.place ≤ m.place → Passes next history m → Has next s m
  has_passes m order passes = record { above = order; below = omega (arith, passes.within, long_above); head = sym (heads_above m order) ∙ passes.head }
