-- What is owed by the numbers of the replicas is what is owed, whatever the signatures will be.
use Rattle.std.proofs.Common.{◌≡◌, ℕ, ◌+◌, ◌<◌, nat_eq, nat_le, nat_lt, not, ◌||◌, Bool, true, false, if◌then◌else◌, List, length, take, IfOk, IfSome, Option, Some, None, Result, Ok, Err, refl, ap, ◌∙◌}
use Rattle.std.specs.Prelude.{slice_set, option_map}
use Rattle.zy_base.specs.declared.cause.Cause.{Cause}
use Rattle.zy_base.specs.declared.cause.Cause.TheVariants as causes
use Rattle.zy_parts.specs.declared.reports.Began.{Began}
use Rattle.zy_parts.specs.declared.reports.New.{New}
use Rattle.zy_parts.specs.declared.reports.Told.{Told}
use Rattle.zy_parts.specs.declared.signed.Signed.{Signed}
use Rattle.zy_cert.specs.Equal.{same_began, same_digest}
use Rattle.zy_evidence.specs.Reading.{number_of_party}
use Rattle.zy_change.specs.declared.kept.Accepted.{Accepted}
use Rattle.zy_change.specs.declared.kept.Chosen.{Chosen}
use Rattle.zy_change.specs.declared.owed.Owed.{Owed}
use Rattle.zy_change.specs.Ahead.{confirmers}
use Rattle.zy_change.specs.Fit.{IsFit}
use Rattle.zy_change.specs.Views.{Views, Slots, own_view, is_accepted, leads, slot_of, began_for, begans_equal, first_of, with_began, without_others}
use Rattle.zy_change.specs.Owing.{Pens, signed_by, nothing, refused, onward, provider_in, adoption_by, adopt_if, certify, certify_with, accept, leaving_alone}
use Rattle.zy_change.proofs.AheadLemmas.{confirmed_many, heard_many}
use Rattle.zy_change.specs.Judging.{chosen_in}
use Rattle.zy_change.specs.Confirming.{is_over, new_view_judged, new_view_owes, is_began_from, accepted_for, began_compared, began_judged, began_owes}
use Rattle.zy_change.specs.EnteringAhead.{adopting_ahead, arriving_ahead, confirming_ahead, judged_ahead, new_view_ahead, compared_ahead, began_judged_ahead, began_ahead}

module _ (v : Views) (by : ℕ) (a : Accepted) (owed : Owed) (slots : Slots Began) where
  abbrev says : Began
  says = began_for a.new.stmt.view a.chosen

  abbrev begans : List (Signed Began)
  begans = begans_equal says slots

  by_count : (b : Bool) → adopt_if a (option_map (λ l. record { new = a.new; begans = l }) (if b then Some (take v.counts.cert begans) else None)) owed ≡ (if b then record owed { adopt = adoption_by a (provider_in a) } else owed)
  by_count true = refl
  by_count false = refl

  settled : length begans ≡ length (confirmers v by says)
      → adopt_if a (option_map (λ l. record { new = a.new; begans = l }) (first_of v.counts.cert begans)) owed ≡ adopting_ahead v by a owed
  settled many =
      by_count (nat_le v.counts.cert (length begans))
      ∙ ap (λ n. if nat_le v.counts.cert n then record owed { adopt = adoption_by a (provider_in a) } else owed) many

-- ---- a new view

module _ (v : Views) (frame : Signed New) (told : Told) (pens : Pens) (fit : IsFit v) (chosen : Chosen) where
  abbrev a : Accepted
  a = record { new = frame; chosen = chosen }

  abbrev own : Signed Began
  own = signed_by v pens.began (began_for frame.stmt.view chosen)

  abbrev kept : Slots Began
  kept = slice_set (without_others own.stmt v.begans) v.me.0 (Some own)

  accepted_as : (b : Bool) → accept a pens (if b then leaving_alone frame.stmt.view told pens (onward v) else onward v) ≡ adopting_ahead v v.me.0 a (confirming_ahead chosen (if b then record nothing { leave = Some frame.stmt.view; signs = 1 } else nothing))
  unfolding accept
  accepted_as true = settled v v.me.0 a (confirming_ahead chosen (record nothing { leave = Some frame.stmt.view; signs = 1 })) kept (confirmed_many v own fit)
  accepted_as false = settled v v.me.0 a (confirming_ahead chosen nothing) kept (confirmed_many v own fit)

judged_same : (r : Result Chosen Cause) (v : Views) (frame : Signed New) (told : Told) (pens : Pens) → IsFit v → new_view_judged r v frame told pens ≡ judged_ahead r v frame
judged_same (Err cause) v frame told pens fit = refl
judged_same (Ok chosen) v frame told pens fit = accepted_as v frame told pens fit chosen (nat_lt (own_view v) frame.stmt.view.0)

pub new_view_same : (v : Views) (frame : Signed New) (told : Told) (pens : Pens) → IsFit v → new_view_owes v frame told pens ≡ new_view_ahead v frame
new_view_same v frame told pens fit =
    ap (λ (o : Owed). if is_over v frame.stmt.view.0 then refused causes.OldView else (if is_accepted frame.stmt.view.0 v.accepted || leads v frame.stmt.view.0 then refused causes.Repeat else o))
    (judged_same (chosen_in v.counts v.interval frame.stmt) v frame told pens fit)

-- ---- a confirmation of another

module _ (v : Views) (vote : Signed Began) (fit : IsFit v) (member : number_of_party vote.by < v.counts.n) where
  compared_same : (a : Accepted) → v.accepted ≡ Some a → began_compared (began_for a.new.stmt.view a.chosen) v vote ≡ compared_ahead a (began_for a.new.stmt.view a.chosen) v vote
  compared_same a is =
      ap (λ (o : Owed). if not (same_digest a.chosen.head vote.stmt.head) then refused (causes.OtherHistory a.chosen.head vote.stmt.head) else o)
      (at (same_began vote.stmt (began_for a.new.stmt.view a.chosen)) refl)
    where
      at : (b : Bool) → same_began vote.stmt (began_for a.new.stmt.view a.chosen) ≡ b
          → (if b then certify (onward (with_began vote v)) else refused causes.Unmatched) ≡ (if b then adopting_ahead v (number_of_party vote.by) a nothing else refused causes.Unmatched)
      at false other = refl
      at true same =
          ap (λ (o : Option Accepted). certify_with o (onward (with_began vote v))) is
          ∙ settled v (number_of_party vote.by) a nothing (slice_set v.begans (number_of_party vote.by) (Some vote)) (heard_many v vote (began_for a.new.stmt.view a.chosen) fit member same)

  began_judged_same : (o : Option Accepted) → v.accepted ≡ o → began_judged (accepted_for vote.stmt.view.0 o) v vote ≡ began_judged_ahead (accepted_for vote.stmt.view.0 o) v vote
  began_judged_same None is = refl
  began_judged_same (Some a) is = at (nat_eq a.new.stmt.view.0 vote.stmt.view.0)
    where
      at : (b : Bool) → began_judged (if b then Some a else None) v vote ≡ began_judged_ahead (if b then Some a else None) v vote
      at true = compared_same a is
      at false = refl

  pub began_same : began_owes v vote ≡ began_ahead v vote
  began_same =
      ap (λ (o : Owed). if is_over v vote.stmt.view.0 then refused causes.OldView else (if is_began_from vote.stmt.view.0 (slot_of vote.by v.begans) then refused causes.Repeat else o))
      (began_judged_same v.accepted refl)

-- what is to be confirmed is what is chosen out of the reports
pub confirmed_only : (v : Views) (frame : Signed New) → IfSome (new_view_ahead v frame).confirm (λ chosen. chosen_in v.counts v.interval frame.stmt ≡ Ok chosen)
confirmed_only v frame = by (is_over v frame.stmt.view.0) (is_accepted frame.stmt.view.0 v.accepted || leads v frame.stmt.view.0) (chosen_in v.counts v.interval frame.stmt) refl
  where
    by : (over repeats : Bool) (r : Result Chosen Cause) → chosen_in v.counts v.interval frame.stmt ≡ r
        → IfSome (if over then refused causes.OldView else (if repeats then refused causes.Repeat else judged_ahead r v frame)).confirm (λ chosen. chosen_in v.counts v.interval frame.stmt ≡ Ok chosen)
    by true repeats r is = tt
    by false true r is = tt
    by false false (Err cause) is = tt
    by false false (Ok chosen) is = at (nat_le v.counts.cert (length (confirmers v v.me.0 (began_for frame.stmt.view chosen))))
      where
        at : (b : Bool) → IfSome (if b then record (confirming_ahead chosen (arriving_ahead v frame.stmt.view)) { adopt = adoption_by (record { new = frame; chosen = chosen }) (provider_in (record { new = frame; chosen = chosen })) } else confirming_ahead chosen (arriving_ahead v frame.stmt.view)).confirm (λ found. chosen_in v.counts v.interval frame.stmt ≡ Ok found)
        at true = is
        at false = is

pub ok_after : {T E : Type 0} (r : Result T E) (P Q : T → Type 0) → IfOk r P → ((x : T) → P x → Q x) → IfOk r Q
ok_after (Ok x) P Q is next = next x is
ok_after (Err e) P Q is next = tt
