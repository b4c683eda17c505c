-- What is kept stays fit.
use Rattle.std.proofs.Common.{◌≡◌, ◌⊎◌, inl, inr, ℕ, zero, suc, ◌<◌, ◌≤◌, List, [], ◌∷◌, length, replicate, take, nat_eq, nat_lt, ◌+◌, Bool, true, false, if◌then◌else◌, All, IfSome, option_map, Option, Some, None, refl, sym, ap, ◌∙◌, subst, arith}
use Rattle.std.proofs.lemmas.Bool.{eqb-true, eqb-false, lt-ltb}
use Rattle.std.proofs.lemmas.List.Elements.{All-from_recursion}
use Rattle.std.specs.List.{AllByRecursion, filter_map, cons_option, range_with_len}
use Rattle.std.specs.Prelude.{slice_set, slice_index_or}
use Rattle.zy_base.specs.declared.counts.Counts.{Counts}
use Rattle.zy_base.specs.declared.ids.ReplicaId.{ReplicaId}
use Rattle.zy_parts.specs.declared.reports.Change.{Change}
use Rattle.zy_base.specs.declared.ids.Digest.{Digest}
use Rattle.zy_chain.specs.Entries.{IsEntryInRange}
use Rattle.zy_chain.specs.Stretch.{Stretch}
use Rattle.zy_parts.specs.Reports.{IsToldInRange}
use Rattle.zy_parts.specs.declared.statements.Check.{Check}
use Rattle.zy_parts.specs.declared.signed.Signed.{Signed}
use Rattle.zy_base.specs.declared.ids.Party.TheVariants.{Replica}
use Rattle.zy_base.specs.declared.ids.View.{View}
use Rattle.zy_base.specs.declared.ids.Place.{Place}
use Rattle.zy_wire.specs.Fields.{FitsList}
use Rattle.zy_parts.specs.Signing.{IsSignedInRange}
use Rattle.zy_parts.specs.Statements.{IsSpecInRange}
use Rattle.zy_parts.specs.declared.statements.Spec.{Spec}
use Rattle.zy_parts.specs.declared.reports.Told.{Told}
use Rattle.zy_choose.specs.Reports.{PlainReport}
use Rattle.zy_choose.specs.Rules.{IsWellFormed, Fits}
use Rattle.zy_evidence.proofs.ProofLemmas.{all_clear}
use Rattle.zy_evidence.specs.Reading.{number_of_party, read_by}
use Rattle.zy_evidence.specs.Rules.{rule_of, rule_of_proofs, rule_or, rule_of_itself, is_began_proven, is_spec_proven, is_stable_proven}
use Rattle.zy_evidence.specs.declared.rule.Rule.{Rule}
use Rattle.zy_evidence.specs.declared.rule.Rule.TheVariants as rules
use Rattle.zy_change.specs.Views.{Views, with_change, start_of, own_view, told_of}
use Rattle.zy_change.specs.Owing.{change_to}
use Rattle.zy_change.specs.Fit.{IsFit, IsKeptChange, IsTrueReport, IsStableInRange}
use Rattle.zy_change.specs.Ahead.{IsHeard, IsReport, IsOwn, kept_change, heard_change, told_in, told_ahead, report_ahead, reports_ahead}

-- ---- slots

-- a slot that is read after another was filled
pub kept_or_filled : {A : Type 0} (xs : List (Option A)) (id at : ℕ) (r q : A) → slice_index_or (slice_set xs id (Some r)) at None ≡ Some q
    → ((at ≡ id) × (q ≡ r)) ⊎ (slice_index_or xs at None ≡ Some q)
kept_or_filled [] id at r q is = inr is
kept_or_filled (x ∷ xs) zero zero r q is = inl (refl, cc)
kept_or_filled (x ∷ xs) zero (suc at) r q is = inr is
kept_or_filled (x ∷ xs) (suc id) zero r q is = inr is
kept_or_filled (x ∷ xs) (suc id) (suc at) r q is =
    elim (kept_or_filled xs id at r q is) [ inl both ↦ inl (ap suc both.0, both.1) | inr other ↦ inr other ]

-- no slot of a fresh list is filled
pub none_filled : {A : Type 0} (n at : ℕ) (q : A) → slice_index_or (replicate n None) at None ≡ Some q → ⊥
none_filled zero at q is = cc
none_filled (suc n) zero q is = cc
none_filled (suc n) (suc at) q is = none_filled n at q is

-- as many slots as before
pub as_long : {A : Type 0} (xs : List A) (id : ℕ) (x : A) → length (slice_set xs id x) ≡ length xs
as_long [] id x = refl
as_long (y ∷ xs) zero x = refl
as_long (y ∷ xs) (suc id) x = ap suc (as_long xs id x)

pub as_many : {A : Type 0} (n : ℕ) (x : A) → length (replicate n x) ≡ n
as_many zero x = refl
as_many (suc n) x = ap suc (as_many n x)

-- ---- reports

pub with_change-fit : (v : Views) (c : Signed Change) → IsFit v → IsKeptChange v.counts v.interval (number_of_party c.by) c → IsFit (with_change c v)
with_change-fit v c fit kept =
    record {
      at_least = fit.at_least;
      at_most = fit.at_most;
      me = fit.me;
      last = fit.last;
      own = fit.own;
      changes = as_long v.changes (number_of_party c.by) (Some c) ∙ fit.changes;
      hated = fit.hated;
      begans = fit.begans;
      confirmed = fit.confirmed;
      accepted = fit.accepted;
      waiting = fit.waiting;
      view_cert = fit.view_cert;
      told = record { began_place = fit.told.began_place; began = fit.told.began; specs = fit.told.specs; began_proven = fit.told.began_proven; specs_proven = fit.told.specs_proven };
      kept = λ id other is.
          elim (kept_or_filled v.changes (number_of_party c.by) id c other is) [
            | inl here ↦ (subst (λ (x : Signed Change). IsKeptChange v.counts v.interval id x) (sym here.1) (subst (λ n. IsKeptChange v.counts v.interval n c) (sym here.0) kept))
            | inr there ↦ fit.kept id other there
          ];
    }

pub start-fit : (counts : Counts) (me : ReplicaId) (k : ℕ) → me.0 < counts.n → 4 ≤ k → k ≤ 32 → IsFit (start_of counts me k)
start-fit counts me k within least most =
    record {
      at_least = least;
      at_most = most;
      me = within;
      last = omega arith;
      own = omega arith;
      changes = as_many counts.n None;
      hated = as_many counts.n false;
      begans = as_many counts.n None;
      confirmed = λ id b is. absurd (none_filled counts.n id b is);
      accepted = tt;
      waiting = tt;
      view_cert = tt;
      told = record {
        began_place = omega arith;
        began = record { least = omega arith; most = omega arith; each = λ k d none. absurd (omega arith) };
        specs = tt;
        began_proven = λ stable proof stretch. refl;
        specs_proven = refl;
      };
      kept = λ id c is. absurd (none_filled counts.n id c is);
    }

-- ---- a commit certificate

pub with_specs-fit : (v : Views) (place : Place) (list : List (Signed Spec)) → IsFit v → FitsList (IsSignedInRange IsSpecInRange) 1 16 list → is_spec_proven v.counts v.last_view (Some list) ≡ true
    → IsFit (record v { specs = Some (record { place = place; specs = list }) })
with_specs-fit v place list fit in_range proven =
    record {
      at_least = fit.at_least;
      at_most = fit.at_most;
      me = fit.me;
      last = fit.last;
      own = fit.own;
      changes = fit.changes;
      hated = fit.hated;
      begans = fit.begans;
      confirmed = fit.confirmed;
      accepted = fit.accepted;
      waiting = fit.waiting;
      view_cert = fit.view_cert;
      kept = fit.kept;
      told = record { began_place = fit.told.began_place; began = fit.told.began; specs = in_range; began_proven = fit.told.began_proven; specs_proven = proven };
    }

-- ---- what is told ahead breaks no rule

kept_report : (v : Views) (id : ℕ) (view : View) (c : Signed Change) (told : Told) → IsKeptChange v.counts v.interval id c → told_in view.0 (Some c) ≡ Some told → IsReport v view told
kept_report v id view c told kept is = by (nat_eq c.stmt.view.0 view.0) refl is
  where
    by : (b : Bool) → nat_eq c.stmt.view.0 view.0 ≡ b → option_map (λ (x : Signed Change). x.stmt.told) (if b then Some c else None) ≡ Some told → IsReport v view told
    by false other none = absurd cc
    by true same here =
        let e : c.stmt.told ≡ told = cc in
        let views : c.stmt.view ≡ view = ap (λ n. record { 0 = n }) (eqb-true _ _ same) in
        subst (IsReport v view) e
        (record {
          in_range = kept.in_range.0.1;
          keeps_rules = ap (λ (w : View). rule_of v.counts v.interval (change_to w c.stmt.told)) (sym views) ∙ kept.keeps_rules;
        })

slot_report : (v : Views) (view : View) (o : Option (Signed Change)) (told : Told) → ((c : Signed Change) → o ≡ Some c → (id : ℕ) × IsKeptChange v.counts v.interval id c) → told_in view.0 o ≡ Some told → IsReport v view told
slot_report v view None told kept is = absurd cc
slot_report v view (Some c) told kept is = let (id, k) = kept c refl in kept_report v id view c told k is

heard_kept : (v : Views) (heard : Option (Signed Change)) → IsFit v → IsHeard v heard → (at : ℕ) (c : Signed Change) → heard_change v heard at ≡ Some c → (id : ℕ) × IsKeptChange v.counts v.interval id c
heard_kept v None fit ok at c is = (at, fit.kept at c is)
heard_kept v (Some h) fit ok at c is = by (nat_eq (number_of_party h.by) at) is
  where
    by : (b : Bool) → (if b then Some h else kept_change v at) ≡ Some c → (id : ℕ) × IsKeptChange v.counts v.interval id c
    by true here = (number_of_party h.by, let e : h ≡ c = cc in subst (IsKeptChange v.counts v.interval (number_of_party h.by)) e ok.1)
    by false there = (at, fit.kept at c there)

pub told-fit : (v : Views) (view : View) (heard : Option (Signed Change)) (own : Option Told) → IsFit v → IsHeard v heard → IsOwn v view own → (at : ℕ) (told : Told) → told_ahead v view heard own at ≡ Some told → IsReport v view told
told-fit v view heard None fit ok mine at told is = slot_report v view (heard_change v heard at) told (heard_kept v heard fit ok at) is
told-fit v view heard (Some t) fit ok mine at told is = by (nat_eq v.me.0 at) is
  where
    by : (b : Bool) → (if b then Some t else told_in view.0 (heard_change v heard at)) ≡ Some told → IsReport v view told
    by true here = let e : t ≡ told = cc in subst (IsReport v view) e mine
    by false there = slot_report v view (heard_change v heard at) told (heard_kept v heard fit ok at) there

well_told : (v : Views) (view : View) (at : ℕ) (told : Told) → IsReport v view told → IsWellFormed v.interval (read_by at told)
well_told v view at told r = ((all_clear v.counts v.interval (record { by = Replica (record { 0 = at }); stmt = change_to view told; sig = [] })).0 r.keeps_rules).itself

well_read : (v : Views) (view : View) (at : ℕ) (o : Option Told) → ((told : Told) → o ≡ Some told → IsReport v view told) → (r : PlainReport) → option_map (read_by at) o ≡ Some r → IsWellFormed v.interval r
well_read v view at None ok r is = absurd cc
well_read v view at (Some told) ok r is = let e : read_by at told ≡ r = cc in subst (IsWellFormed v.interval) e (well_told v view at told (ok told refl))

pub all_there : {A B : Type 0} (P : B → Type 0) (h : A → Option B) → ((x : A) (y : B) → h x ≡ Some y → P y) → (xs : List A) → AllByRecursion P (filter_map h xs)
all_there P h each [] = tt
all_there {A} {B} P h each (x ∷ xs) = by (h x) refl (all_there P h each xs)
  where
    by : (o : Option B) → h x ≡ o → AllByRecursion P (filter_map h xs) → AllByRecursion P (cons_option o (filter_map h xs))
    by None is rest = rest
    by (Some y) is rest = (each x y is, rest)

pub taken_there : {A : Type 0} (P : A → Type 0) (count : ℕ) (xs : List A) → AllByRecursion P xs → AllByRecursion P (take count xs)
taken_there P zero xs all = tt
taken_there P (suc count) [] all = tt
taken_there P (suc count) (x ∷ xs) all = (all.0, taken_there P count xs all.1)

-- each report that is read is well formed
pub all_well : (v : Views) (view : View) (heard : Option (Signed Change)) (own : Option Told) → IsFit v → IsHeard v heard → IsOwn v view own → All (IsWellFormed v.interval) (reports_ahead v view heard own)
all_well v view heard own fit ok mine =
    All-from_recursion (IsWellFormed v.interval) (reports_ahead v view heard own)
    (taken_there (IsWellFormed v.interval) v.counts.change _
    (all_there (IsWellFormed v.interval) (report_ahead v view heard own) (λ at r is. well_read v view at (told_ahead v view heard own at) (told-fit v view heard own fit ok mine at) r is) (range_with_len 0 v.counts.n)))

pub all_began : (v : Views) (view : View) (heard : Option (Signed Change)) (own : Option Told) → IsFit v → IsHeard v heard → IsOwn v view own → All (λ r. Fits r.stretch r.began) (reports_ahead v view heard own)
all_began v view heard own fit ok mine = λ k d within. (all_well v view heard own fit ok mine k d within).began

pub all_spec : (v : Views) (view : View) (heard : Option (Signed Change)) (own : Option Told) → IsFit v → IsHeard v heard → IsOwn v view own → All (λ r. IfSome r.spec (Fits r.stretch)) (reports_ahead v view heard own)
all_spec v view heard own fit ok mine = λ k d within. (all_well v view heard own fit ok mine k d within).spec

-- ---- the own report, in a change for any later view

later_rule : (v : Views) (told : Told) (view : View) → told.last_view.0 < view.0 → rule_of v.counts v.interval (change_to (record { 0 = told.last_view.0 + 1 }) told) ≡ None → rule_of v.counts v.interval (change_to view told) ≡ None
later_rule v told view later none =
    let rest : Option Rule =
    (if is_began_proven v.counts told
    then (if is_spec_proven v.counts told.last_view told.specs
    then (if is_stable_proven v.counts told then None else Some rules.Stable)
    else Some rules.Spec)
    else Some rules.Began) in
    let next : nat_lt told.last_view.0 (told.last_view.0 + 1) ≡ true = lt-ltb _ _ (omega arith) in
    ap (λ (b : Bool). rule_or (if b then rest else Some rules.LastView) (rule_of_itself v.interval told)) (lt-ltb _ _ later ∙ sym next) ∙ none

pub told_later : (v : Views) (told : Told) (view : View) → IsFit v → IsTrueReport v told → own_view v < view.0 → IsReport v view told
told_later v told view fit true_report above =
    let last = ap (λ (w : View). w.0) true_report.last in
    let low = fit.last in
    record { in_range = true_report.in_range; keeps_rules = later_rule v told view (omega arith) true_report.keeps_rules }

-- ---- what is told

told_proofs : (v : Views) (stable : View × Place × Digest × Digest) (proof : List (Signed Check)) (stretch : Stretch) → IsFit v → is_stable_proven v.counts (told_of v stable proof stretch) ≡ true
    → rule_of_proofs v.counts (change_to (record { 0 = v.last_view.0 + 1 }) (told_of v stable proof stretch)) ≡ None
told_proofs v stable proof stretch fit proven =
    rw (lt-ltb v.last_view.0 (v.last_view.0 + 1) (omega arith), fit.told.began_proven stable proof stretch, fit.told.specs_proven, proven) refl

-- the report breaks no rule where its stable checkpoint is proven, and it doesn't contradict itself
pub told_well : (v : Views) (stable : View × Place × Digest × Digest) (proof : List (Signed Check)) (stretch : Stretch) → IsFit v → is_stable_proven v.counts (told_of v stable proof stretch) ≡ true
    → rule_of_itself v.interval (told_of v stable proof stretch) ≡ None → rule_of v.counts v.interval (change_to (record { 0 = v.last_view.0 + 1 }) (told_of v stable proof stretch)) ≡ None
told_well v stable proof stretch fit proven itself =
    ap (λ (o : Option Rule). rule_or o (rule_of_itself v.interval (told_of v stable proof stretch))) (told_proofs v stable proof stretch fit proven)
    ∙ ap (λ o. rule_or None o) itself

pub told_in_range : (v : Views) (stable : View × Place × Digest × Digest) (proof : List (Signed Check)) (stretch : Stretch) → IsFit v → IsStableInRange stable proof stretch → AllByRecursion IsEntryInRange stretch.entries
    → IsToldInRange (told_of v stable proof stretch)
told_in_range v stable proof stretch fit in_range entries =
    let last = fit.last in
    let own = fit.own in
    record {
      last_view = (omega arith, omega arith);
      began_place = (omega arith, fit.told.began_place);
      began = fit.told.began;
      specs = fit.told.specs;
      stable_view = (omega arith, in_range.view);
      stable_place = (omega arith, in_range.place);
      checks = record { least = omega arith; most = in_range.few_checks; each = in_range.checks };
      entries = record { least = omega arith; most = in_range.few_entries; each = All-from_recursion IsEntryInRange stretch.entries entries };
    }
