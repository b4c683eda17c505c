-- Inner forms, which only the code cites: what a step owes by the number of each replica, with a report put in that is
-- heard, and the own one where the replica leaves. Nothing is signed here.
use Rattle.std.specs.Prelude.{◌≡◌, ◌<◌, ℕ, ◌+◌, ◌^◌, nat_eq, nat_lt, nat_le, Bool, false, not, ◌&&◌, ◌||◌, if◌then◌else◌, List, length, min, take, filter, filter_map, slice_get, count_by, is_some, slice_index_or, unwrap_or, Option, Some, None, option_map, option_and_then, IfSome}
use Rattle.std.specs.List.{range_with_len, reduce}
use Rattle.zy_base.specs.declared.cause.Cause.TheVariants as causes
use Rattle.zy_base.specs.declared.ids.Party.{Party}
use Rattle.zy_base.specs.declared.ids.View.{View}
use Rattle.zy_parts.specs.declared.reports.Began.{Began}
use Rattle.zy_parts.specs.declared.reports.Change.{Change}
use Rattle.zy_parts.specs.declared.reports.Told.{Told}
use Rattle.zy_parts.specs.declared.signed.Signed.{Signed}
use Rattle.zy_parts.specs.Reports.{IsToldInRange}
use Rattle.zy_cert.specs.Equal.{same_began}
use Rattle.zy_choose.specs.Reports.{PlainReport}
use Rattle.zy_choose.specs.declared.choice.Choice.{Choice}
use Rattle.zy_choose.specs.declared.choice.Choice.TheVariants as choices
use Rattle.zy_evidence.specs.Reading.{number_of_party, read_by}
use Rattle.zy_evidence.specs.Rules.{number_of, rule_of}
use Rattle.zy_evidence.specs.declared.rule.Rule.{Rule}
use Rattle.zy_change.specs.declared.kept.Chosen.{Chosen}
use Rattle.zy_change.specs.declared.owed.Adoption.{Adoption}
use Rattle.zy_change.specs.declared.owed.Owed.{Owed}
use Rattle.zy_change.specs.Choosing.{choice_of}
use Rattle.zy_change.specs.Views.{Views, own_view, leads, is_accepted, change_for, view_above, began_equal, began_for, left, with_change, has_begun, is_from, slot_of, is_hated_by}
use Rattle.zy_change.specs.Owing.{Pens, signed_by, change_to, nothing, refused, sends_to, next_view}
use Rattle.zy_change.specs.Fit.{IsKeptChange}

-- ---- all that is kept

abbrev pub heard_in : Option (Signed Change) → Views → Views
heard_in None v = v
heard_in (Some c) v = with_change c v

abbrev pub ahead : View → Option (Signed Change) → Option Told → Pens → Views → Views
ahead view heard None pens v = heard_in heard v
ahead view heard (Some told) pens v =
    left view (with_change (signed_by (heard_in heard v) pens.change (change_to view told)) (heard_in heard v))

-- what is heard breaks no rule
abbrev pub IsHeard : Views → Option (Signed Change) → Type 0
IsHeard v None = Unit {0}
IsHeard v (Some c) = (number_of_party c.by < v.counts.n) × IsKeptChange v.counts v.interval (number_of_party c.by) c

-- a report that breaks no rule as it is told for a view
pub record IsReport (v : Views) (view : View) (told : Told) : Type 0 where
  pub in_range : IsToldInRange told
  pub keeps_rules : rule_of v.counts v.interval (change_to view told) ≡ None

abbrev pub IsOwn : Views → View → Option Told → Type 0
IsOwn v view None = Unit {0}
IsOwn v view (Some told) = IsReport v view told

-- ---- by the number of a replica

-- the report that is kept of it
abbrev pub kept_change : Views → ℕ → Option (Signed Change)
kept_change v id = slice_index_or v.changes id None

-- or heard of it
abbrev pub heard_change : Views → Option (Signed Change) → ℕ → Option (Signed Change)
heard_change v None id = kept_change v id
heard_change v (Some c) id = if nat_eq (number_of_party c.by) id then Some c else kept_change v id

abbrev pub told_in : ℕ → Option (Signed Change) → Option Told
told_in view slot = option_map (λ c. c.stmt.told) (change_for view slot)

-- what it tells as it leaves for a view
abbrev pub told_ahead : Views → View → Option (Signed Change) → Option Told → ℕ → Option Told
told_ahead v view heard None id = told_in view.0 (heard_change v heard id)
told_ahead v view heard (Some told) id =
    if nat_eq v.me.0 id then Some told else told_in view.0 (heard_change v heard id)

abbrev pub report_ahead : Views → View → Option (Signed Change) → Option Told → ℕ → Option PlainReport
report_ahead v view heard own id = option_map (read_by id) (told_ahead v view heard own id)

-- the replicas of which a report for a view is there
abbrev pub reporters : Views → View → Option (Signed Change) → Option Told → List ℕ
reporters v view heard own = filter (λ id. is_some (told_ahead v view heard own id)) (range_with_len 0 v.counts.n)

-- the reports that are given, and what is told in the one at an index
abbrev pub reports_ahead : Views → View → Option (Signed Change) → Option Told → List PlainReport
reports_ahead v view heard own = take v.counts.change (filter_map (report_ahead v view heard own) (range_with_len 0 v.counts.n))

abbrev pub told_nth : Views → View → Option (Signed Change) → Option Told → ℕ → Option Told
told_nth v view heard own index =
    option_and_then (told_ahead v view heard own) (slice_get (take v.counts.change (reporters v view heard own)) index)

-- the confirmation that is kept of it
abbrev pub kept_began : Views → ℕ → Option (Signed Began)
kept_began v id = slice_index_or v.begans id None

-- the replica confirms this; and where the confirmation of one is put in
abbrev pub is_confirmed_by : Views → Began → ℕ → Bool
is_confirmed_by v began id = is_some (began_equal began (slice_index_or v.begans id None))

abbrev pub confirms : Views → ℕ → Began → ℕ → Bool
confirms v by began id = nat_eq by id || is_confirmed_by v began id

abbrev pub confirmers : Views → ℕ → Began → List ℕ
confirmers v by began = filter (confirms v by began) (range_with_len 0 v.counts.n)

-- it confirms another thing of the same view
abbrev pub says_other : Began → Option (Signed Began) → Bool
says_other own None = false
says_other own (Some b) = nat_eq b.stmt.view.0 own.view.0 && not (same_began b.stmt own)

-- how many hates of the own view are counted
abbrev pub haters : Views → ℕ
haters v = count_by (λ hated. hated) v.hated

-- ---- what is owed

-- a frame can name the place
abbrev pub IsChoiceInRange : Choice → Type 0
IsChoiceInRange (choices.AnchorClash first second) = Unit {0}
IsChoiceInRange (choices.Chosen provider place head) = place.0 < 2 ^ 62

abbrev pub IsOwedInRange : Owed → Type 0
IsOwedInRange owed = IfSome owed.confirm (λ chosen. chosen.place.0 < 2 ^ 62)

abbrev pub adoption_ahead : View → Chosen → Option Told → Option Adoption
adoption_ahead view chosen None = None
adoption_ahead view chosen (Some told) =
    Some (record { view = view; chosen = chosen; told = told })

abbrev pub confirming : View → Chosen → Owed → Owed
confirming view chosen owed =
    record owed { gather = Some view; confirm = Some chosen; signs = owed.signs + 1 + 1 }

abbrev pub adopting_ahead : Views → View → Option (Signed Change) → Option Told → Chosen → Owed → Owed
adopting_ahead v view heard own chosen owed =
    if nat_le v.counts.cert (length (confirmers v v.me.0 (began_for view chosen)))
    then record owed { adopt = adoption_ahead view chosen (told_nth v view heard own chosen.provider) }
    else owed

abbrev pub given_ahead : Views → View → Option (Signed Change) → Option Told → Owed → Choice → Owed
given_ahead v view heard own owed (choices.AnchorClash first second) = refused (causes.AnchorClash first second)
given_ahead v view heard own owed (choices.Chosen provider place head) =
    let chosen : Chosen = record { provider = provider; place = place; head = head } in
    adopting_ahead v view heard own chosen (confirming view chosen owed)

abbrev pub is_given : Views → View → Option Told → Bool
is_given v view None = is_accepted view.0 v.accepted
is_given v view (Some told) = false

abbrev pub gathers_ahead : Views → View → Option (Signed Change) → Option Told → Bool
gathers_ahead v view heard own =
    leads v view.0 && (not (is_given v view own) && nat_le v.counts.change (length (reporters v view heard own)))

unfoldable pub collect_ahead : Views → View → Option (Signed Change) → Option Told → Owed → Owed
collect_ahead v view heard own owed =
    if gathers_ahead v view heard own
    then given_ahead v view heard own owed (choice_of v.counts.agree (reports_ahead v view heard own))
    else owed

abbrev pub leave_ahead : Views → View → Option (Signed Change) → Told → Owed
leave_ahead v view heard told =
    if nat_lt view.0 (2 ^ 62)
    then collect_ahead v view heard (Some told) (record nothing { leave = Some view; signs = 1 })
    else refused causes.NewerView

-- ---- a hate

-- with one hate more it leaves
abbrev pub is_hated_enough : Views → Bool
is_hated_enough v = nat_lt v.counts.f (haters v + 1)

abbrev pub hate_ahead : Views → Party → View → Told → Owed
hate_ahead v by view told =
    if nat_lt view.0 (own_view v) then refused causes.OldView
    else (if nat_lt (own_view v) view.0 then refused causes.NewerView
    else (if is_hated_by v by then refused causes.Repeat
    else (if is_hated_enough v then leave_ahead v (next_view v) None told
    else nothing)))

-- ---- a report of another

abbrev pub above_ahead : Views → Signed Change → ℕ → Option ℕ
above_ahead v vote id = view_above (own_view v) (heard_change v (Some vote) id)

abbrev pub aboves_ahead : Views → Signed Change → List ℕ
aboves_ahead v vote = filter_map (above_ahead v vote) (range_with_len 0 v.counts.n)

abbrev pub least_ahead : Views → Signed Change → View
least_ahead v vote = record { 0 = unwrap_or (reduce min (aboves_ahead v vote)) 0 }

-- where it breaks no rule
abbrev pub kept_ahead : Views → Signed Change → Told → Owed
kept_ahead v vote told =
    if nat_lt v.counts.f (length (aboves_ahead v vote)) then leave_ahead v (least_ahead v vote) (Some vote) told
    else (if nat_eq vote.stmt.view.0 (own_view v) then collect_ahead v vote.stmt.view (Some vote) None nothing
    else nothing)

abbrev pub judged_ahead : Option Rule → Views → Signed Change → Told → Owed
judged_ahead (Some rule) v vote told = refused (causes.BadReport (number_of rule))
judged_ahead None v vote told = kept_ahead v vote told

abbrev pub change_ahead : Views → Signed Change → Told → Owed
change_ahead v vote told =
    if nat_lt vote.stmt.view.0 (own_view v) then refused causes.OldView
    else (if has_begun v.mode vote.stmt.view.0 then sends_to vote.by
    else (if is_from vote.stmt.view.0 (slot_of vote.by v.changes) then refused causes.Repeat
    else judged_ahead (rule_of v.counts v.interval vote.stmt) v vote told))
