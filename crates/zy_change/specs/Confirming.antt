-- What the frames of a new view owe: the rows themselves, composed without a key, as those of a replica that leaves its
-- view.
use Rattle.std.specs.Prelude.{ℕ, nat_eq, nat_le, nat_lt, not, ◌||◌, Bool, false, if◌then◌else◌, Option, Some, None, Result, Ok, Err}
use Rattle.zy_base.specs.declared.cause.Cause.{Cause}
use Rattle.zy_base.specs.declared.cause.Cause.TheVariants as causes
use Rattle.zy_base.specs.declared.ids.Digest.{Digest}
use Rattle.zy_base.specs.declared.ids.Place.{Place}
use Rattle.zy_base.specs.declared.ids.View.{View}
use Rattle.zy_base.specs.declared.step.Answer.TheVariants.{Held}
use Rattle.zy_parts.specs.declared.reports.Began.{Began}
use Rattle.zy_parts.specs.declared.reports.New.{New}
use Rattle.zy_parts.specs.declared.reports.Told.{Told}
use Rattle.zy_parts.specs.declared.signed.Signed.{Signed}
use Rattle.zy_vframes.specs.declared.frame.ViewCert.{ViewCert}
use Rattle.zy_cert.specs.Certificates.{certified}
use Rattle.zy_cert.specs.Equal.{same_began, same_digest}
use Rattle.zy_cert.specs.Points.{point_of_began}
use Rattle.zy_evidence.specs.Rules.{is_certified_at}
use Rattle.zy_change.specs.declared.kept.Accepted.{Accepted}
use Rattle.zy_change.specs.declared.kept.Chosen.{Chosen}
use Rattle.zy_change.specs.declared.owed.Owed.{Owed}
use Rattle.zy_change.specs.Views.{Views, own_view, has_begun, leads, is_accepted, slot_of, began_for, with_began}
use Rattle.zy_change.specs.Owing.{Pens, Onward, nothing, refused, onward, provider_in, adoption_by, certify, accept, leaving_alone}
use Rattle.zy_change.specs.Judging.{chosen_in}

-- the view is past, or has begun
abbrev pub is_over : Views → ℕ → Bool
is_over v view = nat_lt view (own_view v) || has_begun v.mode view

-- ---- a new view

-- where it is above the own one, the replica leaves for it; no reports are collected, for another leads it
abbrev pub arriving : Views → View → Told → Pens → Onward
arriving v view told pens = if nat_lt (own_view v) view.0 then leaving_alone view told pens (onward v) else onward v

abbrev pub new_view_judged : Result Chosen Cause → Views → Signed New → Told → Pens → Owed
new_view_judged (Err cause) v frame told pens = refused cause
new_view_judged (Ok chosen) v frame told pens =
    accept (record { new = frame; chosen = chosen }) pens (arriving v frame.stmt.view told pens)

abbrev pub new_view_owes : Views → Signed New → Told → Pens → Owed
new_view_owes v frame told pens =
    if is_over v frame.stmt.view.0 then refused causes.OldView
    else (if is_accepted frame.stmt.view.0 v.accepted || leads v frame.stmt.view.0 then refused causes.Repeat
    else new_view_judged (chosen_in v.counts v.interval frame.stmt) v frame told pens)

-- ---- a confirmation of another

-- one for this view or a later one
abbrev pub is_began_from : ℕ → Option (Signed Began) → Bool
is_began_from view None = false
is_began_from view (Some b) = nat_le view b.stmt.view.0

-- the new view that it confirmed, where it is this one
abbrev pub accepted_for : ℕ → Option Accepted → Option Accepted
accepted_for view None = None
accepted_for view (Some a) = if nat_eq a.new.stmt.view.0 view then Some a else None

-- beside the own confirmation
abbrev pub began_compared : Began → Views → Signed Began → Owed
began_compared own v vote =
    if not (same_digest own.head vote.stmt.head) then refused (causes.OtherHistory own.head vote.stmt.head)
    else (if same_began vote.stmt own then certify (onward (with_began vote v)) else refused causes.Unmatched)

abbrev pub began_judged : Option Accepted → Views → Signed Began → Owed
began_judged None v vote = record nothing { answer = Held }
began_judged (Some a) v vote = began_compared (began_for a.new.stmt.view a.chosen) v vote

abbrev pub began_owes : Views → Signed Began → Owed
began_owes v vote =
    if is_over v vote.stmt.view.0 then refused causes.OldView
    else (if is_began_from vote.stmt.view.0 (slot_of vote.by v.begans) then refused causes.Repeat
    else began_judged (accepted_for vote.stmt.view.0 v.accepted) v vote)

-- ---- a view certificate

-- its confirmations are of the choice
abbrev pub cert_compared : Result (View × Place × Digest) Cause → ViewCert → Chosen → Owed
cert_compared (Err cause) cert chosen = refused cause
cert_compared (Ok point) cert chosen =
    if is_certified_at (cert.new.stmt.view, chosen.place, chosen.head) (Ok point)
    then record nothing { adopt = adoption_by (record { new = cert.new; chosen = chosen }) (provider_in (record { new = cert.new; chosen = chosen })) }
    else refused causes.Unmatched

abbrev pub cert_judged : Result Chosen Cause → Views → ViewCert → Owed
cert_judged (Err cause) v cert = refused cause
cert_judged (Ok chosen) v cert = cert_compared (certified same_began point_of_began v.counts.cert cert.begans) cert chosen

abbrev pub view_cert_owes : Views → ViewCert → Owed
view_cert_owes v cert =
    if is_over v cert.new.stmt.view.0 then refused causes.OldView
    else cert_judged (chosen_in v.counts v.interval cert.new.stmt) v cert
