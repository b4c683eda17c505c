-- What is chosen out of a new view's reports, or why nothing is.
use Rattle.std.specs.Prelude.{ℕ, nat_eq, nat_lt, not, Bool, if◌then◌else◌, List, [], ◌∷◌, length, map, Option, Some, None, Result, Ok, Err}
use Rattle.std.specs.List.{list_any}
use Rattle.zy_base.specs.declared.cause.Cause.{Cause}
use Rattle.zy_base.specs.declared.cause.Cause.TheVariants as causes
use Rattle.zy_base.specs.declared.counts.Counts.{Counts}
use Rattle.zy_base.specs.declared.ids.View.{View}
use Rattle.zy_parts.specs.declared.reports.Change.{Change}
use Rattle.zy_parts.specs.declared.reports.New.{New}
use Rattle.zy_parts.specs.declared.signed.Signed.{Signed}
use Rattle.zy_cert.specs.Signers.{has_repeat}
use Rattle.zy_choose.specs.Reports.{PlainReport}
use Rattle.zy_choose.specs.declared.choice.Choice.{Choice}
use Rattle.zy_choose.specs.declared.choice.Choice.TheVariants as choices
use Rattle.zy_evidence.specs.Reading.{read}
use Rattle.zy_evidence.specs.Rules.{number_of, rule_of}
use Rattle.zy_evidence.specs.declared.rule.Rule.{Rule}
use Rattle.zy_change.specs.declared.kept.Chosen.{Chosen}
use Rattle.zy_change.specs.Choosing.{choice_of}

-- one of the reports is for another view
abbrev pub is_for_other : View → List (Signed Change) → Bool
is_for_other view changes = list_any (λ c. not (nat_eq c.stmt.view.0 view.0)) changes

-- the first rule that the first of the reports breaks which breaks one
abbrev pub or_later : Option Rule → Option Rule → Option Rule
or_later (Some rule) later = Some rule
or_later None later = later

abbrev pub first_broken : Counts → ℕ → List (Signed Change) → Option Rule
first_broken counts interval [] = None
first_broken counts interval (c ∷ rest) = or_later (rule_of counts interval c.stmt) (first_broken counts interval rest)

-- the reports as they are read, or that rule
abbrev pub read_unless : Option Rule → List (Signed Change) → Result (List PlainReport) Rule
read_unless (Some rule) changes = Err rule
read_unless None changes = Ok (map read changes)

abbrev pub chosen_by : Choice → Result Chosen Cause
chosen_by (choices.AnchorClash first second) = Err (causes.AnchorClash first second)
chosen_by (choices.Chosen provider place head) = Ok (record { provider = provider; place = place; head = head })

abbrev pub chosen_unless : Option Rule → Choice → Result Chosen Cause
chosen_unless (Some rule) choice = Err (causes.BadReport (number_of rule))
chosen_unless None choice = chosen_by choice

-- reports of so many different replicas, all for the view, none of which breaks a rule
abbrev pub chosen_in : Counts → ℕ → New → Result Chosen Cause
chosen_in counts interval new =
    if nat_lt (length new.changes) counts.change then Err (causes.TooFew (length new.changes))
    else (if nat_lt counts.change (length new.changes) then Err causes.Mixed
    else (if has_repeat new.changes then Err causes.Repeat
    else (if is_for_other new.view new.changes then Err causes.Mixed
    else chosen_unless (first_broken counts interval new.changes) (choice_of counts.agree (map read new.changes)))))
