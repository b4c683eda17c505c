-- Reports that don't contradict themselves and prove one anchor have a choice, with its provider.
use Rattle.std.proofs.Common.{◌≡◌, ℕ, zero, suc, ◌+◌, ◌-◌, ◌<◌, ◌≤◌, inl, inr, Bool, true, false, ◌&&◌, nat_le, nat_lt, List, [], ◌∷◌, length, take, fold, get_or, Option, Some, None, refl, sym, ap, subst, arith}
use Rattle.std.specs.List.{flat_map}
use Rattle.std.specs.Prelude.{All, Any, Contains, IfSome, count_by}
use Rattle.std.proofs.lemmas.Bool.{and_parts, and_from, leb-true, le-leb, ltb-true, lt-ltb}
use Rattle.zy_base.specs.declared.ids.Digest.{Digest}
use Rattle.zy_chain.specs.declared.entry.Entry.{Entry}
use Rattle.zy_chain.specs.Stretch.{Mark, Stretch}
use Rattle.zy_choose.proofs.AnchorLemmas.{some_proven}
use Rattle.zy_choose.proofs.ChoiceLemmas.{agreed_has}
use Rattle.zy_choose.proofs.ProviderLemmas.{provided}
use Rattle.zy_choose.specs.Choice.{IsAgreed, IsAnchor, IsChosen, IsGreatestView, IsOnlyAnchor, IsPicked, last_in, provider_of}
use Rattle.zy_choose.specs.Choice.IsPicked.{agreed, anchored}
use Rattle.zy_choose.specs.Marks.{Has, has_mark, link}
use Rattle.zy_choose.specs.Reports.{PlainReport, proven}
use Rattle.zy_choose.specs.Rules.{Fits}
use Rattle.zy_law_views.proofs.Lists.{all_at, all_flat, any_flat, any_later, any_of_flat, greatest_or_none}

-- ---- the marks that a stretch has

marks_from : ℕ → Digest → List Entry → List Mark
marks_from place head [] = record { place = place; head = head } ∷ []
marks_from place head (e ∷ entries) = record { place = place; head = head } ∷ marks_from (place + 1) (link head e) entries

marks_of : Stretch → List Mark
marks_of s = marks_from s.base.place s.base.head s.entries

mark_at_start : (place : ℕ) (head : Digest) (m : Mark) (rest : List Mark) → m.place ≡ place → m.head ≡ head → Any (λ x. x ≡ m) (record { place = place; head = head } ∷ rest)
mark_at_start place head m rest here same = (0, record { place = place; head = head }, omega arith, refl, λ i. record { place = sym here i; head = sym same i })

has_from : (place : ℕ) (head : Digest) (entries : List Entry) (m : Mark) (k : ℕ) → k ≤ length entries → m.place ≡ place + k → m.head ≡ fold link head (take k entries) → Any (λ x. x ≡ m) (marks_from place head entries)
unfolding marks_from
has_from place head [] m zero within here same = mark_at_start place head m [] (omega arith) same
has_from place head [] m (suc k) within here same = absurd (omega arith)
has_from place head (e ∷ entries) m zero within here same = mark_at_start place head m (marks_from (place + 1) (link head e) entries) (omega arith) same
has_from place head (e ∷ entries) m (suc k) within here same =
    any_later (λ x. x ≡ m) (record { place = place; head = head }) (marks_from (place + 1) (link head e) entries)
    (has_from (place + 1) (link head e) entries m k (omega arith) (omega arith) same)

has_among : (s : Stretch) (m : Mark) → Has link s m → Any (λ x. x ≡ m) (marks_of s)
unfolding marks_of
has_among s m has =
    let low = has.above in
    let high = has.below in
    has_from s.base.place s.base.head s.entries m (m.place - s.base.place) (omega arith) (omega arith) (sym has.head)

-- ---- the greatest last view, and the anchor

never : {A : Type 0} (xs : List A) → (xs ≡ [] → ⊥) → All (λ x. true ≡ false) xs → ⊥
never [] some none = some refl
never (x ∷ xs) some none = let never_is : true ≡ false = none 0 x (omega arith) in absurd cc

pub greatest_view : (reports : List PlainReport) → 0 < length reports → (view : ℕ) × IsGreatestView reports view
greatest_view reports some =
    elim (greatest_or_none (λ (r : PlainReport). r.last_view) (λ r. true) reports) [
      | inl none ↦ absurd (never reports (λ is. omega (arith, ap (λ (l : List PlainReport). length l) is)) none)
      | inr (r, g) ↦ (
        r.last_view,
        record {
          told = (let a = g.among in (a.0, a.1, a.2, a.3, ap (λ (x : PlainReport). x.last_view) a.4));
          greatest = λ k d within. g.most k d within refl;
        },
      )
    ]

pub anchor_there : (reports : List PlainReport) (view : ℕ) → IsGreatestView reports view → (m : Mark) × IsAnchor (last_in view reports) m
anchor_there reports view greatest =
    elim (greatest_or_none (λ (m : Mark). m.place) (λ m. true) (flat_map proven (last_in view reports))) [
      | inl none ↦ absurd (never (flat_map proven (last_in view reports)) (some_proven view reports greatest.told) none)
      | inr (m, g) ↦ (
        m,
        record {
          proved = contained m (last_in view reports) (any_of_flat (λ x. x ≡ m) proven (last_in view reports) g.among);
          furthest = all_flat (λ other. other.place ≤ m.place) proven (last_in view reports) (λ k d within. g.most k d within refl);
        },
      )
    ]
  where
    contained : (m : Mark) (list : List PlainReport) → Any (λ r. Any (λ x. x ≡ m) (proven r)) list → Any (λ r. Contains (proven r) m) list
    contained m list (k, r, within, at, (i, x, inside, here, same)) = (k, r, within, at, (i, inside, subst (λ (y : Mark). get_or (proven r) i y ≡ y) same here))

-- ---- what is picked past it

module _ (agree view : ℕ) (reports : List PlainReport) (anchor : Mark) (some : 0 < agree) where
  abbrev IsOneAgreed : Mark → Type 0
  IsOneAgreed = λ m. IsAgreed link agree (last_in view reports) anchor m

  is_agreed : Mark → Bool
  is_agreed m = nat_lt anchor.place m.place && nat_le agree (count_by (λ r. has_mark link r.stretch anchor && has_mark link r.stretch m) (last_in view reports))

  candidates : List Mark
  candidates = flat_map (λ (r : PlainReport). marks_of r.stretch) reports

  told_agreed : (m : Mark) → is_agreed m ≡ true → IsOneAgreed m
  unfolding is_agreed
  told_agreed m told = let both = and_parts (nat_lt anchor.place m.place) _ told in record { past = ltb-true _ _ both.0; enough = leb-true _ _ both.1 }

  agreed_told : (m : Mark) → IsOneAgreed m → is_agreed m ≡ true
  unfolding is_agreed
  agreed_told m is = and_from _ _ (lt-ltb _ _ is.past) (le-leb _ _ is.enough)

  agreed_among : (m : Mark) → IsOneAgreed m → Any (λ x. x ≡ m) candidates
  unfolding candidates
  agreed_among m is =
      let (k, r, within, at, told) = agreed_has link agree view reports anchor m some is in
      any_flat (λ x. x ≡ m) (λ (r : PlainReport). marks_of r.stretch) reports (k, r, within, at, has_among r.stretch m told.2)

  pub picked_there : (m : Mark) × IsPicked link agree (last_in view reports) anchor m
  picked_there =
      elim (greatest_or_none (λ (m : Mark). m.place) is_agreed candidates) [
        | inl none ↦ (
          anchor,
          anchored
              (λ other is.
              let misses : is_agreed other ≡ false = all_at (λ x. is_agreed x ≡ false) candidates other none (agreed_among other is) in
              let passes : is_agreed other ≡ true = agreed_told other is in
              absurd cc)
              refl,
        )
        | inr (m, g) ↦ (
          m,
          agreed (told_agreed m g.passes)
              (λ other is. all_at (λ x. is_agreed x ≡ true → x.place ≤ m.place) candidates other g.most (agreed_among other is) (agreed_told other is)),
        )
      ]

-- ---- a choice

module _ (agree : ℕ) (reports : List PlainReport) (some : 0 < agree) (many : 0 < length reports)
    (began : All (λ r. Fits r.stretch r.began) reports) (spec : All (λ r. IfSome r.spec (Fits r.stretch)) reports)
    (alone : (view : ℕ) (anchor : Mark) → IsGreatestView reports view → IsAnchor (last_in view reports) anchor → IsOnlyAnchor (last_in view reports) anchor) where
  with_provider : (view : ℕ) (anchor m : Mark) → IsGreatestView reports view → IsAnchor (last_in view reports) anchor → IsPicked link agree (last_in view reports) anchor m
      → (told : Option ℕ) → provider_of link view m reports ≡ told → (provider : ℕ) × (m : Mark) × IsChosen link agree reports provider m
  with_provider view anchor m greatest is picked None none = absurd (provided agree view reports anchor m some is picked began spec none)
  with_provider view anchor m greatest is picked (Some provider) told = (
    provider,
    m,
    record {
      choice = record { view = view; anchor = anchor; greatest = greatest; anchored = is; picked = picked };
      only = alone view anchor greatest is;
      provided = told;
    },
  )

  pub some_choice : (provider : ℕ) × (m : Mark) × IsChosen link agree reports provider m
  some_choice =
      let (view, greatest) = greatest_view reports many in
      let (anchor, is) = anchor_there reports view greatest in
      let (m, picked) = picked_there agree view reports anchor some in
      with_provider view anchor m greatest is picked (provider_of link view m reports) refl
