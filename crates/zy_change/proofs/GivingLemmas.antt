-- What a new view's primary gives is in range, and what is kept with a new view stays fit.
use Rattle.std.proofs.Common.{◌≡◌, ℕ, ◌<◌, ◌≤◌, List, [], ◌∷◌, length, nat_eq, ◌&&◌, not, Bool, true, false, if◌then◌else◌, ◌⊎◌, inl, inr, All, Option, Some, None, refl, sym, ap, ◌∙◌, subst, arith, ◌^◌}
use Rattle.std.proofs.lemmas.Bool.{eqb-true}
use Rattle.std.proofs.lemmas.List.Elements.{All-from_recursion}
use Rattle.std.specs.List.{AllByRecursion, filter_map, range_with_len}
use Rattle.std.specs.Prelude.{slice_index_or}
use Rattle.zy_base.specs.declared.counts.Counts.{Counts}
use Rattle.zy_base.specs.declared.ids.Party.TheVariants.{Replica}
use Rattle.zy_base.specs.declared.ids.View.{View}
use Rattle.zy_parts.specs.declared.reports.Began.{Began}
use Rattle.zy_parts.specs.declared.reports.Change.{Change}
use Rattle.zy_parts.specs.declared.signed.Signed.{Signed}
use Rattle.zy_parts.specs.Reports.{IsChangeInRange, IsNewInRange}
use Rattle.zy_parts.specs.Signing.{IsSignedInRange}
use Rattle.zy_cert.specs.Equal.{same_began}
use Rattle.zy_evidence.specs.Reading.{IsReplica, number_of_party}
use Rattle.zy_change.specs.declared.kept.Accepted.{Accepted}
use Rattle.zy_change.specs.Views.{Views, change_for, changes_for, unless_other, with_new}
use Rattle.zy_change.specs.Owing.{gathered, new_of}
use Rattle.zy_change.specs.Ahead.{kept_change}
use Rattle.zy_change.specs.Fit.{IsFit, IsAccepted, IsGiven, IsKeptBegan, IsKeptChange, IsOwnBegan}
use Rattle.zy_change.proofs.FitLemmas.{all_there, taken_there, kept_or_filled, as_long}
use Rattle.zy_change.proofs.IndexLemmas.{all_taken, by_index, map_long, read_map}

-- ---- what is given

-- a kept report for a view
record IsOf (counts : Counts) (interval : ℕ) (view : View) (c : Signed Change) : Type 0 where
  id : ℕ
  kept : IsKeptChange counts interval id c
  view_is : c.stmt.view ≡ view

kept_for : (v : Views) (view : View) → IsFit v → (id : ℕ) (c : Signed Change) → change_for view.0 (kept_change v id) ≡ Some c → IsOf v.counts v.interval view c
kept_for v view fit id c is = by (kept_change v id) refl is
  where
    by : (o : Option (Signed Change)) → kept_change v id ≡ o → change_for view.0 o ≡ Some c → IsOf v.counts v.interval view c
    by None there none = absurd cc
    by (Some x) there here = at (nat_eq x.stmt.view.0 view.0) refl here
      where
        at : (b : Bool) → nat_eq x.stmt.view.0 view.0 ≡ b → (if b then Some x else None) ≡ Some c → IsOf v.counts v.interval view c
        at false other none = absurd cc
        at true same found =
            let e : x ≡ c = cc in
            subst (IsOf v.counts v.interval view) e (record { id = id; kept = fit.kept id x there; view_is = ap (λ n. record { 0 = n }) (eqb-true _ _ same) })

-- the kept reports for a view, by the numbers of the replicas
pub changes_by : (v : Views) (view : View) → IsFit v → filter_map (λ id. change_for view.0 (kept_change v id)) (range_with_len 0 v.counts.n) ≡ changes_for view.0 v.changes
changes_by v view fit = by_index (change_for view.0) (λ id. change_for view.0 (kept_change v id)) v.counts.n v.changes fit.changes (λ id. refl)

all_given : (v : Views) (view : View) → IsFit v → (P : Signed Change → Type 0) → ((c : Signed Change) → IsOf v.counts v.interval view c → P c) → AllByRecursion P (gathered v view.0)
all_given v view fit P each =
    taken_there P v.counts.change (changes_for view.0 v.changes)
    (subst (AllByRecursion P) (changes_by v view fit)
    (all_there P (λ id. change_for view.0 (kept_change v id)) (λ id c is. each c (kept_for v view fit id c is)) (range_with_len 0 v.counts.n)))

itself : (counts : Counts) (interval : ℕ) (view : View) (c : Signed Change) → IsOf counts interval view c → IsGiven counts interval view c
itself counts interval view c of = record { by = subst IsReplica (sym of.kept.by) tt; view_is = of.view_is; keeps_rules = of.kept.keeps_rules }

pub given : (v : Views) (view : View) → IsFit v → All (IsGiven v.counts v.interval view) (gathered v view.0)
given v view fit = All-from_recursion (IsGiven v.counts v.interval view) (gathered v view.0) (all_given v view fit (IsGiven v.counts v.interval view) (itself v.counts v.interval view))

view_of_first : (v : Views) (view : View) (l : List (Signed Change)) → 0 < length l → AllByRecursion (IsOf v.counts v.interval view) l → (1 ≤ view.0) × (view.0 < 2 ^ 62)
view_of_first v view [] some all = absurd (omega arith)
view_of_first v view (c ∷ rest) some all = subst (λ (w : View). (1 ≤ w.0) × (w.0 < 2 ^ 62)) all.0.view_is all.0.kept.in_range.0.0

pub new_in_range : (v : Views) (view : View) → IsFit v → v.counts.change ≤ length (changes_for view.0 v.changes) → IsNewInRange (new_of v view)
new_in_range v view fit enough =
    let sound = v.counts.sound in
    let many = all_taken v.counts.change (changes_for view.0 v.changes) enough in
    let some : 0 < length (gathered v view.0) = omega (arith, many, sound.local_and_change, sound.local_in_reach) in (
      view_of_first v view (gathered v view.0) some (all_given v view fit (IsOf v.counts v.interval view) (λ c of. of)),
      record {
        least = omega (arith, some);
        most = omega (arith, many, sound.short_change);
        each = All-from_recursion (IsSignedInRange IsChangeInRange) (gathered v view.0) (all_given v view fit (IsSignedInRange IsChangeInRange) (λ c of. of.kept.in_range));
      },
    )

-- ---- what is kept with a new view

same_kept : (own : Began) (o : Option (Signed Began)) (b : Signed Began) → unless_other own o ≡ Some b → o ≡ Some b
same_kept own None b is = absurd cc
same_kept own (Some x) b is = by (nat_eq x.stmt.view.0 own.view.0 && not (same_began x.stmt own)) is
  where
    by : (drops : Bool) → (if drops then None else Some x) ≡ Some b → Some x ≡ Some b
    by true none = absurd cc
    by false here = here

pub with_new-fit : (v : Views) (a : Accepted) (own : Signed Began) → IsFit v → IsAccepted v.counts v.interval a → IsOwnBegan v.me a own → IsFit (with_new a own v)
with_new-fit v a own fit accepted mine =
    record {
      at_least = fit.at_least;
      at_most = fit.at_most;
      me = fit.me;
      last = fit.last;
      own = fit.own;
      changes = fit.changes;
      hated = fit.hated;
      begans = as_long _ (number_of_party own.by) (Some own) ∙ (map_long (unless_other own.stmt) v.begans ∙ fit.begans);
      kept = fit.kept;
      confirmed = λ id b is.
          elim (kept_or_filled _ (number_of_party own.by) id own b is) [
            | inl here ↦ subst (IsKeptBegan id) (sym here.1) (record {
              by = mine.by ∙ ap (λ n. Replica (record { 0 = n })) (sym (here.0 ∙ ap number_of_party mine.by));
              in_range = mine.in_range;
            })
            | inr there ↦ fit.confirmed id b (same_kept own.stmt (slice_index_or v.begans id None) b (sym (read_map (unless_other own.stmt) refl v.begans id) ∙ there))
          ];
      accepted = accepted;
      waiting = fit.waiting;
      view_cert = fit.view_cert;
      told = record { began_place = fit.told.began_place; began = fit.told.began; specs = fit.told.specs; began_proven = fit.told.began_proven; specs_proven = fit.told.specs_proven };
    }
