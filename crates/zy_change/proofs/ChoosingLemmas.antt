-- The choice as a function answers as the choice's definition says, so it is what is chosen.
use Rattle.std.proofs.Common.{◌≡◌, ◌≢◌, ℕ, zero, suc, ◌+◌, ◌-◌, ◌<◌, ◌≤◌, ◌*◌, ◌^◌, max, nat_eq, nat_lt, nat_le, ◌==◌, ◌&&◌, not, Bool, true, false, cond, if◌then◌else◌, ◌⊎◌, inl, inr, List, [], ◌∷◌, ◌++◌, length, fold, get_or, All, Any, Option, Some, None, IfSome, refl, sym, ap, ◌∙◌, subst, arith, append_assoc}
use Rattle.std.proofs.lemmas.Bool.{eqb-true, eqb-false, ltb-true, ltb-false, leb-true, leb-false, le-leb, true≢false}
use Rattle.std.proofs.lemmas.List.{append-nil, get_or_default}
use Rattle.std.proofs.lemmas.List.Quantifiers.{position-Some}
use Rattle.std.specs.Prelude.{find, filter_map, flat_map, option_map, unwrap_or}
use Rattle.std.specs.List.{cons_option}
use Rattle.zy_base.specs.declared.ids.Digest.{Digest}
use Rattle.zy_chain.specs.Stretch.{Mark, Stretch, end_of, head_in}
use Rattle.zy_cert.specs.Equal.{same_digest, digest-equal}
use Rattle.zy_choose.specs.Answer.{IsAnswer}
use Rattle.zy_choose.specs.Choice.{IsAgreed, IsGreatestView, IsPicked, last_in, provider_of}
use Rattle.zy_choose.specs.Choice.IsPicked.{agreed, anchored}
use Rattle.zy_choose.specs.Furthest.{IsFurthest, IsOne, IsTwo}
use Rattle.zy_choose.specs.Marks.{Has, has_mark, link}
use Rattle.zy_choose.specs.Reports.{PlainReport, proven}
use Rattle.zy_choose.specs.Rules.{Fits, IsWellFormed}
use Rattle.zy_choose.specs.declared.choice.Choice.{Choice}
use Rattle.zy_choose.specs.declared.choice.Choice.TheVariants.{Chosen, AnchorClash}
use Rattle.zy_choose.specs.declared.furthest.Furthest.{Furthest}
use Rattle.zy_choose.specs.declared.furthest.Furthest.TheVariants.{Nothing, One, Two}
use Rattle.zy_choose.proofs.AnchorLemmas.{some_proven, IsOne-anchor, IsOne-only, IsTwo-clash}
use Rattle.zy_choose.proofs.ChoiceLemmas.{agreed_has}
use Rattle.zy_choose.proofs.FurthestLemmas.{IsOne-first, IsOne-further, IsOne-same, IsOne-behind, IsTwo-other, IsTwo-more}
use Rattle.zy_choose.proofs.MarkLemmas.{has_mark-Has}
use Rattle.zy_choose.proofs.OneAnswer.{one_answer_lem}
use Rattle.zy_choose.proofs.ProviderLemmas.{provided as provider_there}
use Rattle.zy_change.specs.Ahead.{IsChoiceInRange}
use Rattle.zy_change.specs.Choosing.{greatest_view, place_of, and_mark, furthest_of, mark_at, is_agreed, agreed_at, or_else, agreed_within, furthest_end, agreed_past, chosen_by, provided, choice_past, choice_at, choice_of}

-- ---- the greatest last view

record IsMost (start : ℕ) (reports : List PlainReport) (view : ℕ) : Type 0 where
  least : start ≤ view
  most : (k : ℕ) (d : PlainReport) → k < length reports → (get_or reports k d).last_view ≤ view
  from : (view ≡ start) ⊎ Any (λ r. r.last_view ≡ view) reports

most : (start : ℕ) (reports : List PlainReport) → IsMost start reports (fold (λ view r. max view r.last_view) start reports)
most start [] = record { least = omega arith; most = λ k d within. absurd (omega arith); from = inl refl }
most start (r ∷ reports) =
    let m = most (max start r.last_view) reports in
    let low = m.least in
    record {
      least = omega arith;
      most = all m;
      from = elim m.from [ inl is ↦ here is | inr rest ↦ inr (suc rest.0, rest.1, omega (arith, rest.2), rest.3, rest.4) ];
    }
  where
    all : IsMost (max start r.last_view) reports (fold (λ view r. max view r.last_view) (max start r.last_view) reports)
        → (k : ℕ) (d : PlainReport) → k < length (r ∷ reports) → (get_or (r ∷ reports) k d).last_view ≤ fold (λ view r. max view r.last_view) (max start r.last_view) reports
    all m zero d within = let low = m.least in omega arith
    all m (suc k) d within = m.most k d (omega arith)

    here : fold (λ view r. max view r.last_view) (max start r.last_view) reports ≡ max start r.last_view
        → (fold (λ view r. max view r.last_view) (max start r.last_view) reports ≡ start) ⊎ Any (λ x. x.last_view ≡ fold (λ view r. max view r.last_view) (max start r.last_view) reports) (r ∷ reports)
    here is = by (nat_le r.last_view start) refl
      where
        by : (b : Bool) → nat_le r.last_view start ≡ b → (fold (λ view r. max view r.last_view) (max start r.last_view) reports ≡ start) ⊎ Any (λ x. x.last_view ≡ fold (λ view r. max view r.last_view) (max start r.last_view) reports) (r ∷ reports)
        by true small = let low = leb-true _ _ small in inl (omega (arith, is))
        by false large = let high = leb-false _ _ large in inr (0, r, omega arith, refl, omega (arith, is))

greatest : (reports : List PlainReport) → 0 < length reports → IsGreatestView reports (greatest_view reports)
greatest [] some = absurd (omega arith)
greatest (r ∷ reports) some =
    let m = most 0 (r ∷ reports) in
    record {
      told = elim m.from [ inl none ↦ (let first = m.most 0 r (omega arith) in (0, r, omega arith, refl, omega (arith, none, first))) | inr any ↦ any ];
      greatest = m.most;
    }

-- ---- the furthest mark

one_more : (f : Furthest) (marks : List Mark) (m : Mark) → IsFurthest f marks → IsFurthest (and_mark f m) (marks ++ m ∷ [])
one_more Nothing marks m none = subst (λ (l : List Mark). IsOne m.place m.head (l ++ m ∷ [])) (sym none) (IsOne-first m)
one_more (One place head) marks m one = by (nat_lt place.0 m.place) refl
  where
    by : (b : Bool) → nat_lt place.0 m.place ≡ b
        → IsFurthest (if b then One (place_of m) m.head else (if nat_eq place.0 m.place && not (same_digest head m.head) then Two place head m.head else One place head)) (marks ++ m ∷ [])
    by true further = IsOne-further place.0 marks m one.furthest (ltb-true _ _ further)
    by false behind = at (nat_eq place.0 m.place) (same_digest head m.head) refl refl
      where
        at : (here same : Bool) → nat_eq place.0 m.place ≡ here → same_digest head m.head ≡ same → IsFurthest (if here && not same then Two place head m.head else One place head) (marks ++ m ∷ [])
        at true true here same = let e = eqb-true _ _ here in IsOne-same place.0 head marks m one (sym e) (sym ((digest-equal head m.head).0 same))
        at true false here other = let e = eqb-true _ _ here in IsTwo-other place.0 head marks m one (sym e) (λ is. true≢false (sym ((digest-equal head m.head).1 is) ∙ other))
        at false same elsewhere told = let low = ltb-false _ _ behind in let apart = eqb-false _ _ elsewhere in IsOne-behind place.0 head marks m one (omega arith)
one_more (Two place first second) marks m two = by (nat_lt place.0 m.place) refl
  where
    by : (b : Bool) → nat_lt place.0 m.place ≡ b → IsFurthest (if b then One (place_of m) m.head else Two place first second) (marks ++ m ∷ [])
    by true further = IsOne-further place.0 marks m two.furthest (ltb-true _ _ further)
    by false behind = IsTwo-more place.0 first second marks m two (ltb-false _ _ behind)

all_more : (f : Furthest) (done marks : List Mark) → IsFurthest f done → IsFurthest (fold and_mark f marks) (done ++ marks)
all_more f done [] is = subst (λ (l : List Mark). IsFurthest f l) (sym (append-nil done)) is
all_more f done (m ∷ marks) is =
    subst (λ (l : List Mark). IsFurthest (fold and_mark (and_mark f m) marks) l) (append_assoc done (m ∷ []) marks) (all_more (and_mark f m) (done ++ m ∷ []) marks (one_more f done m is))

furthest : (marks : List Mark) → IsFurthest (furthest_of marks) marks
furthest marks = all_more Nothing [] marks refl

-- ---- what enough agree on

found : {A : Type 0} (test : A → Bool) (xs : List A) (x : A) → find test xs ≡ Some x → (test x ≡ true) × Any (λ y. y ≡ x) xs
found test [] x is = absurd cc
found test (y ∷ xs) x is = by (found test xs x) (test y) refl is
  where
    by : (find test xs ≡ Some x → (test x ≡ true) × Any (λ z. z ≡ x) xs) → (b : Bool) → test y ≡ b → cond b (Some y) (find test xs) ≡ Some x → (test x ≡ true) × Any (λ z. z ≡ x) (y ∷ xs)
    by later true told here = let e : y ≡ x = cc in (ap test (sym e) ∙ told, (0, y, omega arith, refl, e))
    by later false told there = let rest = later there in (rest.0, (suc rest.1.0, rest.1.1, omega (arith, rest.1.2), rest.1.3, rest.1.4))

missed : {A : Type 0} (test : A → Bool) (xs : List A) → find test xs ≡ None → (x : A) → Any (λ y. y ≡ x) xs → test x ≡ true → ⊥
missed test [] none x (k, y, within, at, is) told = absurd (omega arith)
missed test (y ∷ xs) none x any told = by (λ is rest. missed test xs is x rest told) (test y) refl none any
  where
    by : (find test xs ≡ None → Any (λ z. z ≡ x) xs → ⊥) → (b : Bool) → test y ≡ b → cond b (Some y) (find test xs) ≡ None → Any (λ z. z ≡ x) (y ∷ xs) → ⊥
    by later true here is any = cc
    by later false here is (zero, z, within, at, same) = true≢false (sym told ∙ ap test (sym (at ∙ same)) ∙ here)
    by later false here is (suc k, z, within, at, same) = later is (k, z, omega arith, at, same)

-- each mark of the reports at a place is of it
of_place : (place : ℕ) (reports : List PlainReport) (m : Mark) → Any (λ x. x ≡ m) (filter_map (mark_at place) reports) → m.place ≡ place
of_place place [] m (k, x, within, at, is) = absurd (omega arith)
of_place place (r ∷ reports) m any = by (of_place place reports m) (head_in r.stretch place) any
  where
    by : (Any (λ x. x ≡ m) (filter_map (mark_at place) reports) → m.place ≡ place) → (o : Option Digest) → Any (λ x. x ≡ m) (cons_option (option_map (λ head. record { place = place; head = head }) o) (filter_map (mark_at place) reports)) → m.place ≡ place
    by later None rest = later rest
    by later (Some head) (zero, x, within, at, is) = ap (λ (y : Mark). y.place) (sym (at ∙ is))
    by later (Some head) (suc k, x, within, at, is) = later (k, x, omega arith, at, is)

has_head : (s : Stretch) (m : Mark) → Has link s m → head_in s m.place ≡ Some m.head
has_head s m has = by (nat_lt m.place s.base.place) (nat_lt (end_of s) m.place) refl refl
  where
    by : (below above : Bool) → nat_lt m.place s.base.place ≡ below → nat_lt (end_of s) m.place ≡ above → head_in s m.place ≡ Some m.head
    by true above low high = let a = ltb-true _ _ low in absurd (omega (arith, has.above))
    by false true low high = let a = ltb-true _ _ high in absurd (omega (arith, has.below))
    by false false low high = rw (low, high) (ap Some has.head)

put_first : (o : Option Mark) (m : Mark) (rest : List Mark) → o ≡ Some m → Any (λ x. x ≡ m) (cons_option o rest)
put_first o m rest is = subst (λ (o : Option Mark). Any (λ x. x ≡ m) (cons_option o rest)) (sym is) (0, m, omega arith, refl, refl)

put_later : (o : Option Mark) (m : Mark) (rest : List Mark) → Any (λ x. x ≡ m) rest → Any (λ x. x ≡ m) (cons_option o rest)
put_later None m rest any = any
put_later (Some x) m rest any = (suc any.0, any.1, omega (arith, any.2), any.3, any.4)

among : (reports : List PlainReport) (m : Mark) → Any (λ r. Has link r.stretch m) reports → Any (λ x. x ≡ m) (filter_map (mark_at m.place) reports)
among [] m (k, x, within, at, has) = absurd (omega arith)
among (r ∷ reports) m (zero, x, within, at, has) =
    let own = subst (λ (y : PlainReport). Has link y.stretch m) (sym at) has in
    put_first (mark_at m.place r) m (filter_map (mark_at m.place) reports) (ap (option_map (λ head. record { place = m.place; head = head })) (has_head r.stretch m own))
among (r ∷ reports) m (suc k, x, within, at, has) = put_later (mark_at m.place r) m (filter_map (mark_at m.place) reports) (among reports m (k, x, omega arith, at, has))

-- all reports that have the greatest last view are of the view itself
of_view : (view : ℕ) (reports : List PlainReport) → last_in view (last_in view reports) ≡ last_in view reports
of_view view [] = refl
of_view view (r ∷ reports) = by (of_view view reports) (r.last_view == view) refl
  where
    by : last_in view (last_in view reports) ≡ last_in view reports → (b : Bool) → (r.last_view == view) ≡ b → last_in view (cond b (r ∷ last_in view reports) (last_in view reports)) ≡ cond b (r ∷ last_in view reports) (last_in view reports)
    by rest true is = ap (λ (t : Bool). cond t (r ∷ last_in view (last_in view reports)) (last_in view (last_in view reports))) is ∙ ap (λ l. r ∷ l) rest
    by rest false is = rest

module _ (agree view : ℕ) (reports : List PlainReport) (anchor : Mark) (some : 0 < agree) where
  abbrev those : List PlainReport
  those = last_in view reports

  abbrev IsOne_agreed : Mark → Type 0
  IsOne_agreed = λ m. IsAgreed link agree those anchor m

  -- a mark on which enough agree is one that some report has
  seen : (m : Mark) → IsOne_agreed m → Any (λ r. Has link r.stretch m) those
  seen m is =
      let (k, r, within, at, both) = agreed_has link agree view those anchor m some (subst (λ (l : List PlainReport). IsAgreed link agree l anchor m) (sym (of_view view reports)) is) in
      (k, r, within, at, both.2)

  told_at : (place : ℕ) (m : Mark) → anchor.place < place → agreed_at agree those anchor place ≡ Some m → IsOne_agreed m × (m.place ≡ place)
  told_at place m past is =
      let both = found (is_agreed agree those anchor) (filter_map (mark_at place) those) m is in
      let here = of_place place those m both.1 in
      (record { past = omega (arith, here); enough = leb-true _ _ both.0 }, here)

  none_at : (place : ℕ) → agreed_at agree those anchor place ≡ None → (m : Mark) → m.place ≡ place → IsOne_agreed m → ⊥
  none_at place none m here is =
      missed (is_agreed agree those anchor) (filter_map (mark_at place) those) none m
      (subst (λ (p : ℕ). Any (λ x. x ≡ m) (filter_map (mark_at p) those)) here (among those m (seen m is)))
      (le-leb _ _ is.enough)

  -- what is found within so many places
  record IsFound (reach : ℕ) (o : Option Mark) : Type 0 where
    is : (m : Mark) → o ≡ Some m → IsOne_agreed m
    furthest : (m : Mark) → o ≡ Some m → (other : Mark) → IsOne_agreed other → other.place ≤ anchor.place + reach → other.place ≤ m.place
    none : o ≡ None → (other : Mark) → IsOne_agreed other → other.place ≤ anchor.place + reach → ⊥

  search_step : (reach : ℕ) (first rest : Option Mark) → agreed_at agree those anchor (anchor.place + suc reach) ≡ first → IsFound reach rest → IsFound (suc reach) (or_else first rest)
  search_step reach None rest none before =
      record {
        is = before.is;
        furthest = λ m told other agreed_on low. before.furthest m told other agreed_on (nearer other agreed_on low);
        none = λ told other agreed_on low. before.none told other agreed_on (nearer other agreed_on low);
      }
    where
      nearer : (other : Mark) → IsOne_agreed other → other.place ≤ anchor.place + suc reach → other.place ≤ anchor.place + reach
      nearer other agreed_on low = by (nat_le other.place (anchor.place + reach)) refl
        where
          by : (b : Bool) → nat_le other.place (anchor.place + reach) ≡ b → other.place ≤ anchor.place + reach
          by true is = leb-true _ _ is
          by false is = let far = leb-false _ _ is in absurd (none_at (anchor.place + suc reach) none other (omega arith) agreed_on)
  search_step reach (Some m) rest here before =
      let both = told_at (anchor.place + suc reach) m (omega arith) here in
      let at = both.1 in
      record {
        is = λ x told. subst IsOne_agreed (same_mark x told) both.0;
        furthest = λ x told other agreed_on low. subst (λ (y : Mark). other.place ≤ y.place) (same_mark x told) (omega arith);
        none = λ told other agreed_on low. absurd cc;
      }
    where
      same_mark : (x : Mark) → Some m ≡ Some x → m ≡ x
      same_mark x told = cc

  searched : (reach : ℕ) → IsFound reach (agreed_within agree those anchor reach)
  searched zero =
      record {
        is = λ m told. absurd cc;
        furthest = λ m told other agreed_on low. absurd cc;
        none = λ told other agreed_on low. let past = agreed_on.past in absurd (omega arith);
      }
  searched (suc reach) = search_step reach (agreed_at agree those anchor (anchor.place + suc reach)) (agreed_within agree those anchor reach) refl (searched reach)

  -- no mark lies further than the furthest end
  record IsEnd (start : ℕ) (list : List PlainReport) (end : ℕ) : Type 0 where
    least : start ≤ end
    each : (k : ℕ) (d : PlainReport) → k < length list → end_of (get_or list k d).stretch ≤ end

  ends : (start : ℕ) (list : List PlainReport) → IsEnd start list (fold (λ end r. max end (end_of r.stretch)) start list)
  ends start [] = record { least = omega arith; each = λ k d within. absurd (omega arith) }
  ends start (r ∷ list) = record { least = (let low = (ends (max start (end_of r.stretch)) list).least in omega arith); each = by (ends (max start (end_of r.stretch)) list) }
    where
      by : IsEnd (max start (end_of r.stretch)) list (fold (λ end r. max end (end_of r.stretch)) (max start (end_of r.stretch)) list)
          → (k : ℕ) (d : PlainReport) → k < length (r ∷ list) → end_of (get_or (r ∷ list) k d).stretch ≤ fold (λ end r. max end (end_of r.stretch)) start (r ∷ list)
      by rest zero d within = let low = rest.least in omega arith
      by rest (suc k) d within = rest.each k d (omega arith)

  in_reach : (m : Mark) → IsOne_agreed m → m.place ≤ anchor.place + (furthest_end those - anchor.place)
  in_reach m is =
      let (k, r, within, at, has) = seen m is in
      let end = subst (λ (x : PlainReport). end_of x.stretch ≤ furthest_end those) at ((ends 0 those).each k r within) in
      let below = has.below in
      omega arith

  picked : IsPicked link agree those anchor (unwrap_or (agreed_past agree those anchor) anchor)
  picked = by (agreed_past agree those anchor) (searched (furthest_end those - anchor.place))
    where
      by : (o : Option Mark) → IsFound (furthest_end those - anchor.place) o → IsPicked link agree those anchor (unwrap_or o anchor)
      by None f = anchored (λ other is. f.none refl other is (in_reach other is)) refl
      by (Some m) f = agreed (f.is m refl) (λ other is. f.furthest m refl other is (in_reach other is))

-- ---- the choice

module _ (agree : ℕ) (reports : List PlainReport) (some : 0 < agree) (many : 0 < length reports)
    (began : All (λ r. Fits r.stretch r.began) reports) (spec : All (λ r. IfSome r.spec (Fits r.stretch)) reports) where
  abbrev view : ℕ
  view = greatest_view reports

  module _ (place : ℕ) (head : Digest) (one : IsOne place head (flat_map proven (last_in view reports))) where
    abbrev anchor : Mark
    anchor = record { place = place; head = head }

    abbrev m : Mark
    m = unwrap_or (agreed_past agree (last_in view reports) anchor) anchor

    with_provider : (o : Option ℕ) → provider_of link view m reports ≡ o → IsAnswer agree reports (chosen_by o m)
    with_provider None none = absurd (provider_there agree view reports anchor m some (IsOne-anchor place head (last_in view reports) one) (picked agree view reports anchor some) began spec none)
    with_provider (Some provider) is =
        record {
          choice = record {
            view = view;
            anchor = anchor;
            greatest = greatest reports many;
            anchored = IsOne-anchor place head (last_in view reports) one;
            picked = picked agree view reports anchor some;
          };
          only = IsOne-only place head (last_in view reports) one;
          provided = is;
        }

    past : IsAnswer agree reports (choice_past agree view reports anchor)
    past = with_provider (provider_of link view m reports) refl

  at : (f : Furthest) → IsFurthest f (flat_map proven (last_in view reports)) → IsAnswer agree reports (choice_at agree view reports f)
  at Nothing none = absurd (some_proven view reports (greatest reports many).told none)
  at (One place head) one = past place.0 head one
  at (Two place first second) two = IsTwo-clash view place.0 first second reports (greatest reports many) two

  pub answers : IsAnswer agree reports (choice_of agree reports)
  unfolding choice_of
  answers = at (furthest_of (flat_map proven (last_in view reports))) (furthest (flat_map proven (last_in view reports)))

  -- so an answer is the choice
  pub chosen : (choice : Choice) → length reports < 2 * agree → IsAnswer agree reports choice → choice ≡ choice_of agree reports
  chosen choice few is = one_answer_lem agree reports choice (choice_of agree reports) few is answers

-- ---- a choice is within what is reported

provider_has : (reports : List PlainReport) (last : ℕ) (mark : Mark) (provider : ℕ) → provider_of link last mark reports ≡ Some provider → Any (λ r. Has link r.stretch mark) reports
provider_has [] last mark provider is = absurd cc
provider_has (first ∷ rest) last mark provider is =
    let r = get_or (first ∷ rest) provider first in
    let (within, passes, earlier) = position-Some (λ x. (x.last_view == last) && has_mark link x.stretch mark) (first ∷ rest) provider first is in
    (provider, r, within, get_or_default (first ∷ rest) provider r first within, has_mark-Has link r.stretch mark (and_second (r.last_view == last) _ passes))
  where
    and_second : (a b : Bool) → (a && b) ≡ true → b ≡ true
    and_second true b both = both
    and_second false b both = absurd cc

pub within_reports : (interval agree : ℕ) (reports : List PlainReport) → All (IsWellFormed interval) reports → (choice : Choice) → IsAnswer agree reports choice → IsChoiceInRange choice
within_reports interval agree reports well (AnchorClash first second) is = tt
within_reports interval agree reports well (Chosen provider place head) is =
    let (k, r, within, at, has) = provider_has reports is.choice.view (record { place = place.0; head = head }) provider is.provided in
    let low = has.below in
    let end = subst (λ (x : PlainReport). end_of x.stretch < 2 ^ 62) at (well k r within).entries.end in
    omega arith
