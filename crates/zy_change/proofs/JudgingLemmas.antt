-- Reports that break no rule are those that a choice is made of.
use Rattle.std.proofs.Common.{◌≡◌, ℕ, zero, suc, ◌+◌, ◌<◌, nat_eq, nat_lt, ◌||◌, not, Bool, true, false, if◌then◌else◌, List, [], ◌∷◌, ◌++◌, length, map, take, drop, get_or, arith, All, Option, Some, None, Ok, Err, refl, sym, ap, ◌∙◌, subst, drop-cons, add-one}
use Rattle.std.proofs.lemmas.Bool.{eqb-true}
use Rattle.std.proofs.lemmas.List.{map-append, take_more}
use Rattle.std.proofs.lemmas.List.Elements.{All-from_recursion}
use Rattle.std.specs.List.{AllByRecursion}
use Rattle.zy_base.specs.declared.counts.Counts.{Counts}
use Rattle.zy_base.specs.declared.cause.Cause.TheVariants as causes
use Rattle.zy_base.specs.declared.ids.View.{View}
use Rattle.zy_parts.specs.declared.reports.Change.{Change}
use Rattle.zy_parts.specs.declared.reports.New.{New}
use Rattle.zy_parts.specs.Reports.{IsNewInRange}
use Rattle.zy_parts.specs.Signing.{IsSignedInRange}
use Rattle.zy_cert.specs.Signers.{has_repeat}
use Rattle.zy_parts.specs.declared.signed.Signed.{Signed}
use Rattle.zy_choose.specs.Reports.{PlainReport}
use Rattle.zy_choose.specs.Rules.{IsWellFormed}
use Rattle.zy_evidence.proofs.ProofLemmas.{all_clear}
use Rattle.zy_choose.specs.declared.choice.Choice.{Choice}
use Rattle.zy_choose.specs.declared.choice.Choice.TheVariants as choices
use Rattle.zy_evidence.specs.Reading.{IsReplica, read}
use Rattle.zy_evidence.specs.Rules.{rule_of, judged_by}
use Rattle.zy_evidence.specs.declared.rule.Rule.{Rule}
use Rattle.zy_change.specs.declared.kept.Chosen.{Chosen}
use Rattle.zy_change.specs.Choosing.{choice_of}
use Rattle.zy_change.specs.Fit.{IsAccepted, IsGiven}
use Rattle.zy_change.specs.Judging.{or_later, first_broken, read_unless, is_for_other, chosen_by, chosen_unless, chosen_in}

-- ---- where none is broken

first_clear : (o later : Option Rule) → or_later o later ≡ None → (o ≡ None) × (later ≡ None)
first_clear None later is = (refl, is)
first_clear (Some rule) later is = absurd cc

each_well : (counts : Counts) (interval : ℕ) (l : List (Signed Change)) → first_broken counts interval l ≡ None → AllByRecursion (IsWellFormed interval) (map read l)
each_well counts interval [] clear = tt
each_well counts interval (c ∷ rest) clear =
    let both = first_clear (rule_of counts interval c.stmt) (first_broken counts interval rest) clear in
    (((all_clear counts interval c).0 both.0).itself, each_well counts interval rest both.1)

all_well : (counts : Counts) (interval : ℕ) (l : List (Signed Change)) → first_broken counts interval l ≡ None → All (IsWellFormed interval) (map read l)
all_well counts interval l clear = λ k d within. All-from_recursion (IsWellFormed interval) (map read l) (each_well counts interval l clear) k d within

-- ---- what is read

all_read : (o : Option Rule) (l : List (Signed Change)) (reports : List PlainReport) → Ok reports ≡ read_unless o l → (o ≡ None) × (reports ≡ map read l)
all_read None l reports is = let e : reports ≡ map read l = cc in (refl, e)
all_read (Some rule) l reports is = absurd cc

pub read_well : (counts : Counts) (interval : ℕ) (l : List (Signed Change)) (reports slice : List PlainReport) → Ok reports ≡ read_unless (first_broken counts interval l) l → slice ≡ reports → All (IsWellFormed interval) slice
read_well counts interval l reports slice is same =
    let all = all_read (first_broken counts interval l) l reports is in
    subst (λ (list : List PlainReport). All (IsWellFormed interval) list) (sym (same ∙ all.1)) (all_well counts interval l all.0)

judged_clear : (o : Option Rule) (c : Signed Change) (r : PlainReport) → Ok r ≡ judged_by o c → (o ≡ None) × (r ≡ read c)
judged_clear None c r is = let e : r ≡ read c = cc in (refl, e)
judged_clear (Some rule) c r is = absurd cc

judged_broken : (o : Option Rule) (c : Signed Change) (rule : Rule) → Err rule ≡ judged_by o c → o ≡ Some rule
judged_broken None c rule is = absurd cc
judged_broken (Some other) c rule is = let e : rule ≡ other = cc in ap Some (sym e)

-- the first that breaks one, behind others that don't
broken_here : (counts : Counts) (interval : ℕ) (c : Signed Change) (rest : List (Signed Change)) (rule : Rule) → rule_of counts interval c.stmt ≡ Some rule → first_broken counts interval (c ∷ rest) ≡ Some rule
broken_here counts interval c rest rule is = ap (λ o. or_later o (first_broken counts interval rest)) is

clear_here : (counts : Counts) (interval : ℕ) (c : Signed Change) (rest : List (Signed Change)) → rule_of counts interval c.stmt ≡ None → first_broken counts interval (c ∷ rest) ≡ first_broken counts interval rest
clear_here counts interval c rest is = ap (λ o. or_later o (first_broken counts interval rest)) is

-- ---- one report more

module _ (counts : Counts) (interval : ℕ) (l : List (Signed Change)) (i : ℕ) (c : Signed Change) (within : i < length l) (is : c ≡ get_or l i c) where
  rest_is : drop i l ≡ c ∷ drop (i + 1) l
  rest_is =
      drop-cons l i c within
      ∙ ap (λ (x : Signed Change). x ∷ drop (suc i) l) (sym is)
      ∙ ap (λ (n : ℕ). c ∷ drop n l) (sym (add-one i))

  -- it breaks a rule
  pub first_here : (rule : Rule) → first_broken counts interval (drop i l) ≡ first_broken counts interval l → Err rule ≡ judged_by (rule_of counts interval c.stmt) c
      → Err rule ≡ read_unless (first_broken counts interval l) l
  first_here rule so_far judged =
      let here = broken_here counts interval c (drop (i + 1) l) rule (judged_broken (rule_of counts interval c.stmt) c rule judged) in
      let first : first_broken counts interval l ≡ Some rule = sym so_far ∙ ap (first_broken counts interval) rest_is ∙ here in
      ap (λ (o : Option Rule). read_unless o l) (sym first)

  -- it is read
  pub read_more : (r : PlainReport) (reports next : List PlainReport) → reports ≡ map read (take i l) → next ≡ reports ++ r ∷ [] → Ok r ≡ judged_by (rule_of counts interval c.stmt) c
      → next ≡ map read (take (i + 1) l)
  read_more r reports next so_far next_is judged =
      next_is
      ∙ ap (λ (all : List PlainReport). all ++ r ∷ []) so_far
      ∙ ap (λ (x : PlainReport). map read (take i l) ++ x ∷ []) ((judged_clear (rule_of counts interval c.stmt) c r judged).1 ∙ ap read is)
      ∙ sym (map-append read (take i l) (get_or l i c ∷ []))
      ∙ sym (ap (map read) (take_more l i c within))

  pub later_same : (r : PlainReport) → first_broken counts interval (drop i l) ≡ first_broken counts interval l → Ok r ≡ judged_by (rule_of counts interval c.stmt) c
      → first_broken counts interval (drop (i + 1) l) ≡ first_broken counts interval l
  later_same r so_far judged =
      sym (ap (first_broken counts interval) rest_is ∙ clear_here counts interval c (drop (i + 1) l) (judged_clear (rule_of counts interval c.stmt) c r judged).0) ∙ so_far

-- ---- what is chosen

not_false : (b : Bool) → not b ≡ false → b ≡ true
not_false true is = refl
not_false false is = absurd cc

or_false : (a b : Bool) → (a || b) ≡ false → (a ≡ false) × (b ≡ false)
or_false false b is = (refl, is)
or_false true b is = absurd cc

pub all_given : (counts : Counts) (interval : ℕ) (view : View) (l : List (Signed Change)) → All (λ c. IsReplica c.by) l → is_for_other view l ≡ false → first_broken counts interval l ≡ None → All (IsGiven counts interval view) l
all_given counts interval view [] signers none clear = λ k d within. absurd (omega arith)
all_given counts interval view (c ∷ rest) signers none clear =
    let same = or_false (not (nat_eq c.stmt.view.0 view.0)) (is_for_other view rest) none in
    let both = first_clear (rule_of counts interval c.stmt) (first_broken counts interval rest) clear in
    at same both (all_given counts interval view rest (λ i e below. signers (suc i) e (omega arith)) same.1 both.1)
  where
    at : (not (nat_eq c.stmt.view.0 view.0) ≡ false) × (is_for_other view rest ≡ false) → (rule_of counts interval c.stmt ≡ None) × (first_broken counts interval rest ≡ None) → All (IsGiven counts interval view) rest
        → (k : ℕ) (d : Signed Change) → k < length (c ∷ rest) → IsGiven counts interval view (get_or (c ∷ rest) k d)
    at same both others zero d within = record { by = signers 0 d within; view_is = ap (λ n. record { 0 = n }) (eqb-true _ _ (not_false _ same.0)); keeps_rules = both.0 }
    at same both others (suc k) d within = others k d (omega arith)

chosen_as : (choice : Choice) (chosen : Chosen) → chosen_by choice ≡ Ok chosen → choice ≡ choices.Chosen chosen.provider chosen.place chosen.head
chosen_as (choices.AnchorClash first second) chosen is = absurd cc
chosen_as (choices.Chosen provider place head) chosen is =
    let e : ◌≡◌ {A = Chosen} (record { provider = provider; place = place; head = head }) chosen = cc in
    ap (λ (x : Chosen). choices.Chosen x.provider x.place x.head) e

-- what was judged, where something is chosen
pub record IsChosenFrom (counts : Counts) (interval : ℕ) (n : New) (chosen : Chosen) : Type 0 where
  pub not_few : nat_lt (length n.changes) counts.change ≡ false
  pub not_many : nat_lt counts.change (length n.changes) ≡ false
  pub no_repeat : has_repeat n.changes ≡ false
  pub for_view : is_for_other n.view n.changes ≡ false
  pub clear : first_broken counts interval n.changes ≡ None
  pub choice : choice_of counts.agree (map read n.changes) ≡ choices.Chosen chosen.provider chosen.place chosen.head

pub chosen_from : (counts : Counts) (interval : ℕ) (n : New) (chosen : Chosen) → chosen_in counts interval n ≡ Ok chosen → IsChosenFrom counts interval n chosen
chosen_from counts interval n chosen is =
    by (nat_lt (length n.changes) counts.change) (nat_lt counts.change (length n.changes)) (has_repeat n.changes) (is_for_other n.view n.changes) (first_broken counts interval n.changes) refl refl refl refl refl is
  where
    by : (short long repeats others : Bool) (broken : Option Rule) → nat_lt (length n.changes) counts.change ≡ short → nat_lt counts.change (length n.changes) ≡ long → has_repeat n.changes ≡ repeats
        → is_for_other n.view n.changes ≡ others → first_broken counts interval n.changes ≡ broken
        → (if short then Err (causes.TooFew (length n.changes))
        else (if long then Err causes.Mixed
        else (if repeats then Err causes.Repeat
        else (if others then Err causes.Mixed
        else chosen_unless broken (choice_of counts.agree (map read n.changes)))))) ≡ Ok chosen
        → IsChosenFrom counts interval n chosen
    by true long repeats others broken few many once same clear none = absurd cc
    by false true repeats others broken few many once same clear none = absurd cc
    by false false true others broken few many once same clear none = absurd cc
    by false false false true broken few many once same clear none = absurd cc
    by false false false false (Some rule) few many once same clear none = absurd cc
    by false false false false None few many once same clear here =
        record { not_few = few; not_many = many; no_repeat = once; for_view = same; clear = clear; choice = chosen_as (choice_of counts.agree (map read n.changes)) chosen here }

-- a new view of which something is chosen can be confirmed
pub accepted : (counts : Counts) (interval : ℕ) (frame : Signed New) (chosen : Chosen) → All (λ c. IsReplica c.by) frame.stmt.changes → IsSignedInRange IsNewInRange frame
    → chosen_in counts interval frame.stmt ≡ Ok chosen → IsAccepted counts interval (record { new = frame; chosen = chosen })
accepted counts interval frame chosen signers in_range is =
    let from = chosen_from counts interval frame.stmt chosen is in
    record {
      in_range = in_range;
      reports = all_given counts interval frame.stmt.view frame.stmt.changes signers from.for_view from.clear;
      chosen = from.choice;
    }
