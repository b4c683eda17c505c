-- Inner forms, which only the code cites: what is owed by the numbers of the replicas. Nothing is signed here.
use Rattle.std.specs.Prelude.{ℕ, ◌+◌, ◌<◌, ◌^◌, nat_le, nat_lt, not, ◌||◌, if◌then◌else◌, length, Option, Some, None, Result, Ok, Err}
use Rattle.zy_base.specs.declared.cause.Cause.{Cause}
use Rattle.zy_base.specs.declared.cause.Cause.TheVariants as causes
use Rattle.zy_base.specs.declared.ids.View.{View}
use Rattle.zy_base.specs.declared.step.Answer.TheVariants.{Held}
use Rattle.zy_parts.specs.declared.reports.Began.{Began}
use Rattle.zy_parts.specs.declared.reports.New.{New}
use Rattle.zy_parts.specs.declared.signed.Signed.{Signed}
use Rattle.zy_cert.specs.Equal.{same_began, same_digest}
use Rattle.zy_evidence.specs.Reading.{number_of_party}
use Rattle.zy_change.specs.declared.kept.Accepted.{Accepted}
use Rattle.zy_change.specs.declared.kept.Chosen.{Chosen}
use Rattle.zy_change.specs.declared.owed.Adoption.{Adoption}
use Rattle.zy_change.specs.declared.owed.Owed.{Owed}
use Rattle.zy_change.specs.Ahead.{confirmers}
use Rattle.zy_change.specs.Views.{Views, own_view, is_accepted, leads, slot_of, began_for}
use Rattle.zy_change.specs.Owing.{nothing, refused, provider_in, adoption_by}
use Rattle.zy_change.specs.Judging.{chosen_in}
use Rattle.zy_change.specs.Confirming.{is_over, is_began_from, accepted_for}

-- a frame can name the place of what is adopted
abbrev pub IsInFrames : Adoption → Type 0
IsInFrames adoption = adoption.chosen.place.0 < 2 ^ 62

-- with the confirmation of the replica with this number enough may confirm it
abbrev pub adopting_ahead : Views → ℕ → Accepted → Owed → Owed
adopting_ahead v by a owed =
    if nat_le v.counts.cert (length (confirmers v by (began_for a.new.stmt.view a.chosen)))
    then record owed { adopt = adoption_by a (provider_in a) }
    else owed

abbrev pub arriving_ahead : Views → View → Owed
arriving_ahead v view = if nat_lt (own_view v) view.0 then record nothing { leave = Some view; signs = 1 } else nothing

abbrev pub confirming_ahead : Chosen → Owed → Owed
confirming_ahead chosen owed = record owed { confirm = Some chosen; signs = owed.signs + 1 }

abbrev pub judged_ahead : Result Chosen Cause → Views → Signed New → Owed
judged_ahead (Err cause) v frame = refused cause
judged_ahead (Ok chosen) v frame =
    adopting_ahead v v.me.0 (record { new = frame; chosen = chosen }) (confirming_ahead chosen (arriving_ahead v frame.stmt.view))

abbrev pub new_view_ahead : Views → Signed New → Owed
new_view_ahead v frame =
    if is_over v frame.stmt.view.0 then refused causes.OldView
    else (if is_accepted frame.stmt.view.0 v.accepted || leads v frame.stmt.view.0 then refused causes.Repeat
    else judged_ahead (chosen_in v.counts v.interval frame.stmt) v frame)

abbrev pub compared_ahead : Accepted → Began → Views → Signed Began → Owed
compared_ahead a own v vote =
    if not (same_digest own.head vote.stmt.head) then refused (causes.OtherHistory own.head vote.stmt.head)
    else (if same_began vote.stmt own then adopting_ahead v (number_of_party vote.by) a nothing else refused causes.Unmatched)

abbrev pub began_judged_ahead : Option Accepted → Views → Signed Began → Owed
began_judged_ahead None v vote = record nothing { answer = Held }
began_judged_ahead (Some a) v vote = compared_ahead a (began_for a.new.stmt.view a.chosen) v vote

abbrev pub began_ahead : Views → Signed Began → Owed
began_ahead v vote =
    if is_over v vote.stmt.view.0 then refused causes.OldView
    else (if is_began_from vote.stmt.view.0 (slot_of vote.by v.begans) then refused causes.Repeat
    else began_judged_ahead (accepted_for vote.stmt.view.0 v.accepted) v vote)
