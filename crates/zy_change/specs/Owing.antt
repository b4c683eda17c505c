-- What a step of a view change owes. It is the row itself, composed without a key: the signatures that will be made are
-- given, and nothing that is owed depends on them.
use Rattle.std.specs.Prelude.{ℕ, ◌+◌, ◌^◌, nat_eq, nat_lt, nat_le, ◌&&◌, not, Bool, if◌then◌else◌, List, length, map, min, take, slice_get, count_by, Option, Some, None, unwrap_or}
use Rattle.std.specs.List.{reduce}
use Rattle.zy_base.specs.declared.cause.Cause.{Cause}
use Rattle.zy_base.specs.declared.cause.Cause.TheVariants as causes
use Rattle.zy_base.specs.declared.ids.Party.{Party}
use Rattle.zy_base.specs.declared.ids.Party.TheVariants.{Replica}
use Rattle.zy_base.specs.declared.ids.View.{View}
use Rattle.zy_base.specs.declared.step.Answer.TheVariants.{Taken, Refused}
use Rattle.zy_parts.specs.declared.reports.Began.{Began}
use Rattle.zy_parts.specs.declared.reports.Change.{Change}
use Rattle.zy_parts.specs.declared.reports.New.{New}
use Rattle.zy_parts.specs.declared.reports.Told.{Told}
use Rattle.zy_parts.specs.declared.signed.Signed.{Signed}
use Rattle.zy_parts.specs.declared.statements.Hate.{Hate}
use Rattle.zy_vframes.specs.declared.frame.ViewCert.{ViewCert}
use Rattle.zy_choose.specs.declared.choice.Choice.{Choice}
use Rattle.zy_choose.specs.declared.choice.Choice.TheVariants as choices
use Rattle.zy_evidence.specs.Reading.{number_of_party, read}
use Rattle.zy_evidence.specs.Rules.{number_of, rule_of}
use Rattle.zy_evidence.specs.declared.rule.Rule.{Rule}
use Rattle.zy_change.specs.declared.kept.Accepted.{Accepted}
use Rattle.zy_change.specs.declared.kept.Chosen.{Chosen}
use Rattle.zy_change.specs.declared.owed.Adoption.{Adoption}
use Rattle.zy_change.specs.declared.owed.Owed.{Owed}
use Rattle.zy_change.specs.Choosing.{choice_of}
use Rattle.zy_change.specs.Views.{Views, own_view, has_begun, leads, slot_of, is_hated_by, is_accepted, changes_for, views_above, is_from, began_for, certificate_of, with_hate, with_change, left, with_new}

-- the signatures on what the step will say
pub record Pens : Type 0 where
  pub change : Change → List ℕ
  pub new : New → List ℕ
  pub began : Began → List ℕ

abbrev pub signed_by : {S : Type 0} → Views → (S → List ℕ) → S → Signed S
signed_by v pen stmt = record { by = Replica v.me; stmt = stmt; sig = pen stmt }

-- ---- a step on its way

-- what is kept by now, and what is owed so far
pub record Onward : Type 0 where
  pub views : Views
  pub owed : Owed

abbrev pub nothing : Owed
nothing = record { answer = Taken; leave = None; gather = None; confirm = None; adopt = None; send = None; signs = 0 }

abbrev pub refused : Cause → Owed
refused cause = record nothing { answer = Refused cause }

abbrev pub onward : Views → Onward
onward v = record { views = v; owed = nothing }

-- ---- certify: enough confirmations are kept, and the view begins

-- the report that gives the chosen history, out of those of the new view
abbrev pub provider_in : Accepted → Option (Signed Change)
provider_in a = slice_get a.new.stmt.changes a.chosen.provider

abbrev pub adoption_by : Accepted → Option (Signed Change) → Option Adoption
adoption_by a None = None
adoption_by a (Some c) =
    Some (record { view = a.new.stmt.view; chosen = a.chosen; told = c.stmt.told })

abbrev pub adopt_if : Accepted → Option ViewCert → Owed → Owed
adopt_if a None owed = owed
adopt_if a (Some cert) owed = record owed { adopt = adoption_by a (provider_in a) }

abbrev pub certify_with : Option Accepted → Onward → Owed
certify_with None w = w.owed
certify_with (Some a) w = adopt_if a (certificate_of w.views a) w.owed

abbrev pub certify : Onward → Owed
certify w = certify_with w.views.accepted w

-- ---- accept: a new view is kept, and its choice is confirmed

abbrev pub accepting : Accepted → Pens → Onward → Onward
accepting a pens w =
    record {
      views = with_new a (signed_by w.views pens.began (began_for a.new.stmt.view a.chosen)) w.views;
      owed = record w.owed { confirm = Some a.chosen; signs = w.owed.signs + 1 };
    }

unfoldable pub accept : Accepted → Pens → Onward → Owed
accept a pens w = certify (accepting a pens w)

-- ---- collect: the primary gives the new view out of enough reports

-- the reports that it gives: the first of those that are kept for the view, by the numbers of the replicas
abbrev pub gathered : Views → ℕ → List (Signed Change)
gathered v view = take v.counts.change (changes_for view v.changes)

abbrev pub new_of : Views → View → New
new_of v view = record { view = view; changes = gathered v view.0 }

-- it leads the view, gave no new view for it yet, and keeps enough reports
abbrev pub is_gathering : Views → ℕ → Bool
is_gathering v view =
    leads v view && (not (is_accepted view v.accepted) && nat_le v.counts.change (length (changes_for view v.changes)))

abbrev pub giving : View → Onward → Onward
giving view w = record w { owed = record w.owed { gather = Some view; signs = w.owed.signs + 1 } }

abbrev pub accepted_as : Views → Pens → View → Chosen → Accepted
accepted_as v pens view chosen = record { new = signed_by v pens.new (new_of v view); chosen = chosen }

abbrev pub give : View → Pens → Choice → Onward → Owed
give view pens (choices.AnchorClash first second) w = refused (causes.AnchorClash first second)
give view pens (choices.Chosen provider place head) w =
    accept (accepted_as w.views pens view (record { provider = provider; place = place; head = head })) pens (giving view w)

-- what is chosen out of the reports that it gives
abbrev pub choice_in : Views → ℕ → Choice
choice_in v view = choice_of v.counts.agree (map read (gathered v view))

unfoldable pub collect : View → Pens → Onward → Owed
collect view pens w = if is_gathering w.views view.0 then give view pens (choice_in w.views view.0) w else w.owed

-- ---- leave: the report is signed, and reports are collected

abbrev pub change_to : View → Told → Change
change_to view told = record { view = view; told = told }

abbrev pub leaving_alone : View → Told → Pens → Onward → Onward
leaving_alone view told pens w =
    record {
      views = left view (with_change (signed_by w.views pens.change (change_to view told)) w.views);
      owed = record w.owed { leave = Some view; signs = w.owed.signs + 1 };
    }

-- no view has the number 2^62 or a greater one
unfoldable pub leave : View → Told → Pens → Onward → Owed
leave view told pens w =
    if nat_lt view.0 (2 ^ 62) then collect view pens (leaving_alone view told pens w) else refused causes.NewerView

-- a leave that another row owes
abbrev pub leaving_owes : Views → View → Told → Pens → Owed
leaving_owes v view told pens = leave view told pens (onward v)

-- ---- a hate

abbrev pub next_view : Views → View
next_view v = record { 0 = own_view v + 1 }

-- as many hates as no lying replicas alone could send make it leave
abbrev pub hated_by_many : Views → Bool
hated_by_many v = nat_lt v.counts.f (count_by (λ hated. hated) v.hated)

abbrev pub hate_counted : Views → Told → Pens → Owed
hate_counted v told pens = if hated_by_many v then leave (next_view v) told pens (onward v) else nothing

abbrev pub hate_owes_of : Views → Party → View → Told → Pens → Owed
hate_owes_of v by view told pens =
    if nat_lt view.0 (own_view v) then refused causes.OldView
    else (if nat_lt (own_view v) view.0 then refused causes.NewerView
    else (if is_hated_by v by then refused causes.Repeat
    else hate_counted (with_hate by v) told pens))

abbrev pub hate_owes : Views → Signed Hate → Told → Pens → Owed
hate_owes v vote told pens = hate_owes_of v vote.by vote.stmt.view told pens

-- ---- a report of another

-- the least view above the own one for which a report is kept
abbrev pub least_above : Views → View
least_above v = record { 0 = unwrap_or (reduce min (views_above (own_view v) v.changes)) 0 }

-- more than can lie left for later views
abbrev pub is_left_behind : Views → Bool
is_left_behind v = nat_lt v.counts.f (length (views_above (own_view v) v.changes))

-- where the report is kept already
abbrev pub change_kept : Views → View → Told → Pens → Owed
change_kept v view told pens =
    if is_left_behind v then leave (least_above v) told pens (onward v)
    else (if nat_eq view.0 (own_view v) then collect view pens (onward v)
    else nothing)

abbrev pub change_judged : Option Rule → Views → Signed Change → Told → Pens → Owed
change_judged (Some rule) v vote told pens = refused (causes.BadReport (number_of rule))
change_judged None v vote told pens = change_kept (with_change vote v) vote.stmt.view told pens

-- who is behind gets the certificate of the own view
abbrev pub sends_to : Party → Owed
sends_to by = record nothing { send = Some (record { 0 = number_of_party by }) }

abbrev pub change_owes : Views → Signed Change → Told → Pens → Owed
change_owes v vote told pens =
    if nat_lt vote.stmt.view.0 (own_view v) then refused causes.OldView
    else (if has_begun v.mode vote.stmt.view.0 then sends_to vote.by
    else (if is_from vote.stmt.view.0 (slot_of vote.by v.changes) then refused causes.Repeat
    else change_judged (rule_of v.counts v.interval vote.stmt) v vote told pens))
