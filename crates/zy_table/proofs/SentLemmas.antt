-- A report that is signed can be kept and sent, and so can the new view that a primary gives out of kept reports.
use Rattle.std.proofs.Common.{◌≡◌, ℕ, suc, ◌^◌, ◌<◌, ◌≤◌, Bool, true, false, nat_eq, not, List, [], ◌∷◌, length, All, Option, Some, None, refl, sym, subst, ap, ◌∙◌, arith}
use Rattle.std.specs.List.{AllByRecursion, cons_option}
use Rattle.std.specs.Prelude.{if◌then◌else◌, slice_index_or}
use Rattle.std.proofs.lemmas.Bool.{and_parts, leb-true}
use Rattle.std.proofs.lemmas.List.{length-take-le}
use Rattle.std.proofs.lemmas.List.Elements.{All-from_recursion, All-take, All-weaker}
use Rattle.zy_base.specs.declared.counts.Counts.{Counts}
use Rattle.zy_base.specs.declared.ids.Party.TheVariants.{Replica}
use Rattle.zy_base.specs.declared.ids.View.{View}
use Rattle.zy_parts.specs.Reports.{IsChangeInRange, IsNewInRange}
use Rattle.zy_parts.specs.Signing.{IsSignedInRange}
use Rattle.zy_parts.specs.declared.reports.Change.{Change}
use Rattle.zy_parts.specs.declared.reports.New.{New}
use Rattle.zy_parts.specs.declared.reports.Told.{Told}
use Rattle.zy_parts.specs.declared.signed.Signed.{Signed}
use Rattle.zy_vframes.specs.ViewFrames.{IsShortReport}
use Rattle.zy_vframes.specs.declared.frame.ViewFrame.TheVariants as frames
use Rattle.zy_evidence.specs.Rules.{rule_of}
use Rattle.zy_change.proofs.FitLemmas.{told_later}
use Rattle.zy_change.specs.Fit.{IsFit, IsKeptChange, IsTrueReport}
use Rattle.zy_change.specs.Owing.{change_to, gathered, is_gathering, new_of}
use Rattle.zy_change.specs.Views.{Views, change_for, changes_for, is_accepted, leads, own_view}
use Rattle.zy_table.proofs.ReportLemmas.{rule-short}
use Rattle.zy_table.specs.Sending.{CanBeSent}
use Rattle.zy_table.specs.declared.deeds.AnyFrame.TheVariants as sent

-- ---- a report

-- a true report, signed for a later view, is one that is kept
pub change-kept : (v : Views) (view : View) (told : Told) (id : ℕ) (c : Signed Change) → IsFit v → IsTrueReport v told → own_view v < view.0 → view.0 < 2 ^ 62 → c.by ≡ Replica (record { 0 = id }) → c.stmt ≡ change_to view told
    → length c.sig ≤ 8192 → IsKeptChange v.counts v.interval id c
change-kept v view told id c fit is above least by stmt short =
    let report = told_later v told view fit is above in
    record {
      by = by;
      in_range = (subst IsChangeInRange (sym stmt) ((omega arith, least), report.in_range), short);
      keeps_rules = ap (rule_of v.counts v.interval) stmt ∙ report.keeps_rules;
    }

-- a kept one can be sent
pub change-sent : (counts : Counts) (interval id : ℕ) (c : Signed Change) → IsKeptChange counts interval id c → CanBeSent (sent.View (frames.ViewChange c))
change-sent counts interval id c kept = (kept.in_range, rule-short counts interval c.stmt kept.keeps_rules)

-- ---- a new view

record IsSendable (c : Signed Change) : Type 0 where
  in_range : IsSignedInRange IsChangeInRange c
  short : IsShortReport c.stmt.told

passed : (view : ℕ) (slot : Option (Signed Change)) (c : Signed Change) → change_for view slot ≡ Some c → slot ≡ Some c
passed view None c is = absurd cc
passed view (Some kept) c is = by (nat_eq kept.stmt.view.0 view) is
  where
    by : (b : Bool) → (if b then Some kept else None) ≡ Some c → Some kept ≡ Some c
    by true here = here
    by false none = absurd cc

-- what holds of each slot holds of each report for a view
all_for : (P : Signed Change → Type 0) (view : ℕ) (slots : List (Option (Signed Change))) → ((id : ℕ) (c : Signed Change) → slice_index_or slots id None ≡ Some c → P c) → AllByRecursion P (changes_for view slots)
all_for P view [] each = tt
all_for P view (slot ∷ slots) each = by (change_for view slot) refl (all_for P view slots (λ id c is. each (suc id) c is))
  where
    by : (o : Option (Signed Change)) → change_for view slot ≡ o → AllByRecursion P (changes_for view slots) → AllByRecursion P (cons_option o (changes_for view slots))
    by None none rest = rest
    by (Some c) is rest = (each 0 c (passed view slot c is), rest)

module _ (v : Views) (view : View) (fit : IsFit v) where
  sendable : All IsSendable (gathered v view.0)
  sendable =
      All-take IsSendable v.counts.change (changes_for view.0 v.changes)
      (All-from_recursion IsSendable (changes_for view.0 v.changes)
      (all_for IsSendable view.0 v.changes (λ id c is. (let kept = fit.kept id c is in record { in_range = kept.in_range; short = rule-short v.counts v.interval c.stmt kept.keeps_rules }))))

  many : is_gathering v view.0 ≡ true → length (gathered v view.0) ≡ v.counts.change
  many gathers =
      let led = and_parts (leads v view.0) _ gathers in
      let fresh = and_parts (not (is_accepted view.0 v.accepted)) _ led.1 in
      length-take-le v.counts.change (changes_for view.0 v.changes) (leb-true _ _ fresh.1)

  pub new-in_range : 1 ≤ view.0 → view.0 < 2 ^ 62 → is_gathering v view.0 ≡ true → IsNewInRange (new_of v view)
  new-in_range least most gathers = (
    (least, most),
    record {
      least = omega (arith, many gathers, v.counts.sound.local_and_change, v.counts.sound.local_in_reach);
      most = omega (arith, many gathers, v.counts.sound.short_change);
      each = All-weaker IsSendable (IsSignedInRange IsChangeInRange) (λ c is. is.in_range) (gathered v view.0) sendable;
    },
  )

  pub new-sent : (new : Signed New) → 1 ≤ view.0 → view.0 < 2 ^ 62 → is_gathering v view.0 ≡ true → new.stmt ≡ new_of v view → length new.sig ≤ 8192 → CanBeSent (sent.View (frames.NewView new))
  new-sent new least most gathers is short =
      let changes : gathered v view.0 ≡ new.stmt.changes = ap (λ (n : New). n.changes) (sym is) in (
        (subst IsNewInRange (sym is) (new-in_range least most gathers), short),
        record {
          changes = omega (arith, ap length changes, many gathers, v.counts.sound.short_change);
          reports = subst (All (λ c. IsShortReport c.stmt.told)) changes (All-weaker IsSendable (λ c. IsShortReport c.stmt.told) (λ c is. is.short) (gathered v view.0) sendable);
        },
      )
