-- What a replica makes of a new view, of another's confirmation, and of a view certificate.
use Rattle.std.specs.Prelude.{◌||◌, not, if◌then◌else◌, Option, Some, None, Result, Ok, Err}
use Rattle.zy_base.specs.Machine.{Rules}
use Rattle.zy_base.specs.declared.cause.Cause.{Cause}
use Rattle.zy_base.specs.declared.cause.Cause.TheVariants as causes
use Rattle.zy_base.specs.declared.ids.Digest.{Digest}
use Rattle.zy_base.specs.declared.ids.Place.{Place}
use Rattle.zy_base.specs.declared.ids.View.{View}
use Rattle.zy_base.specs.declared.step.Answer.TheVariants.{Taken, Held}
use Rattle.zy_parts.specs.declared.signed.Signed.{Signed}
use Rattle.zy_parts.specs.declared.reports.Began.{Began}
use Rattle.zy_parts.specs.declared.reports.New.{New}
use Rattle.zy_vframes.specs.declared.frame.ViewCert.{ViewCert}
use Rattle.zy_cert.specs.Certificates.{certified}
use Rattle.zy_cert.specs.Equal.{same_began, same_digest}
use Rattle.zy_cert.specs.Points.{point_of_began}
use Rattle.zy_evidence.specs.Rules.{is_certified_at}
use Rattle.zy_change.specs.declared.kept.Accepted.{Accepted}
use Rattle.zy_change.specs.declared.kept.Chosen.{Chosen}
use Rattle.zy_change.specs.Views.{leads, is_accepted, slot_of, began_for, with_began}
use Rattle.zy_change.specs.Judging.{chosen_in}
use Rattle.zy_change.specs.Confirming.{is_over, is_began_from, accepted_for}
use Rattle.zy_table.specs.State.{State}
use Rattle.zy_table.specs.Deeds.{begin}
use Rattle.zy_table.specs.Leaving.{Attempt, goes, accept}
use Rattle.zy_table.specs.Beginning.{arrive, adopt, certify}

-- ---- a new view, of another primary

-- the view is left for, and the choice out of its reports is confirmed
abbrev pub new_view_judged : {S : Type 0} → Rules S → State S → Signed New → Result Chosen Cause → Attempt S
new_view_judged R s new (Err cause) = Err cause
new_view_judged R s new (Ok chosen) =
    goes Taken (accept R (record { new = new; chosen = chosen }) (arrive R new.stmt.view (begin s)))

unfoldable pub new_view : {S : Type 0} → Rules S → State S → Signed New → Attempt S
new_view R s new =
    if is_over s.views new.stmt.view.0 then Err causes.OldView
    else (if is_accepted new.stmt.view.0 s.views.accepted || leads s.views new.stmt.view.0 then Err causes.Repeat
    else new_view_judged R s new (chosen_in s.views.counts s.views.interval new.stmt))

-- ---- another's confirmation

abbrev pub with_confirmation : {S : Type 0} → Signed Began → State S → State S
with_confirmation vote s = record s { views = with_began vote s.views }

-- beside the own one
abbrev pub confirmation_beside : {S : Type 0} → Rules S → State S → Signed Began → Began → Attempt S
confirmation_beside R s vote own =
    if not (same_digest own.head vote.stmt.head) then Err (causes.OtherHistory own.head vote.stmt.head)
    else (if same_began vote.stmt own then certify R Taken (begin (with_confirmation vote s)) else Err causes.Unmatched)

-- it is held until the new view is there
abbrev pub confirmation_judged : {S : Type 0} → Rules S → State S → Signed Began → Option Accepted → Attempt S
confirmation_judged R s vote None = goes Held (begin (with_confirmation vote s))
confirmation_judged R s vote (Some a) = confirmation_beside R s vote (began_for a.new.stmt.view a.chosen)

unfoldable pub confirmation : {S : Type 0} → Rules S → State S → Signed Began → Attempt S
confirmation R s vote =
    if is_over s.views vote.stmt.view.0 then Err causes.OldView
    else (if is_began_from vote.stmt.view.0 (slot_of vote.by s.views.begans) then Err causes.Repeat
    else confirmation_judged R s vote (accepted_for vote.stmt.view.0 s.views.accepted))

-- ---- a view certificate

-- its confirmations are of the choice
abbrev pub certificate_compared : {S : Type 0} → Rules S → State S → ViewCert → Chosen → Result (View × Place × Digest) Cause → Attempt S
certificate_compared R s cert chosen (Err cause) = Err cause
certificate_compared R s cert chosen (Ok point) =
    if is_certified_at (cert.new.stmt.view, chosen.place, chosen.head) (Ok point)
    then adopt R cert chosen (begin s)
    else Err causes.Unmatched

abbrev pub certificate_judged : {S : Type 0} → Rules S → State S → ViewCert → Result Chosen Cause → Attempt S
certificate_judged R s cert (Err cause) = Err cause
certificate_judged R s cert (Ok chosen) =
    certificate_compared R s cert chosen (certified same_began point_of_began s.views.counts.cert cert.begans)

unfoldable pub view_certificate : {S : Type 0} → Rules S → State S → ViewCert → Attempt S
view_certificate R s cert =
    if is_over s.views cert.new.stmt.view.0 then Err causes.OldView
    else certificate_judged R s cert (chosen_in s.views.counts s.views.interval cert.new.stmt)
