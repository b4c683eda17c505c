-- What a replica makes of another's report.
use Rattle.std.specs.Prelude.{nat_eq, nat_lt, if◌then◌else◌, Option, Some, None, Err}
use Rattle.zy_base.specs.Machine.{Rules}
use Rattle.zy_base.specs.declared.cause.Cause.TheVariants as causes
use Rattle.zy_base.specs.declared.ids.Party.{Party}
use Rattle.zy_base.specs.declared.ids.View.{View}
use Rattle.zy_base.specs.declared.step.Answer.TheVariants.{Taken}
use Rattle.zy_parts.specs.declared.signed.Signed.{Signed}
use Rattle.zy_parts.specs.declared.reports.Change.{Change}
use Rattle.zy_vframes.specs.declared.frame.ViewCert.{ViewCert}
use Rattle.zy_vframes.specs.declared.frame.ViewFrame.TheVariants as frames
use Rattle.zy_evidence.specs.Rules.{number_of, rule_of}
use Rattle.zy_evidence.specs.declared.rule.Rule.{Rule}
use Rattle.zy_change.specs.Views.{has_begun, is_from, slot_of, with_change}
use Rattle.zy_change.specs.Owing.{is_left_behind, least_above}
use Rattle.zy_table.specs.declared.deeds.To.TheVariants.{One}
use Rattle.zy_table.specs.State.{State, own_view}
use Rattle.zy_table.specs.Deeds.{Going, send_view, begin}
use Rattle.zy_table.specs.Leaving.{Attempt, goes, collect, leave}

-- who is behind gets the certificate of the own view
abbrev pub send_cert : {S : Type 0} → Party → Option ViewCert → Going S → Going S
send_cert by None g = g
send_cert by (Some cert) g = send_view (One by) (frames.ViewCert cert) g

-- More are left for later views than can lie: it leaves to the least of these. Else the reports for its own are looked
-- through.
abbrev pub change_kept : {S : Type 0} → Rules S → View → Going S → Attempt S
change_kept R view g =
    if is_left_behind g.state.views then leave R (least_above g.state.views) g
    else (if nat_eq view.0 (own_view g.state) then collect R view g
    else goes Taken g)

abbrev pub change_judged : {S : Type 0} → Rules S → State S → Signed Change → Option Rule → Attempt S
change_judged R s vote (Some rule) = Err (causes.BadReport (number_of rule))
change_judged R s vote None = change_kept R vote.stmt.view (begin (record s { views = with_change vote s.views }))

unfoldable pub change : {S : Type 0} → Rules S → State S → Signed Change → Attempt S
change R s vote =
    if nat_lt vote.stmt.view.0 (own_view s) then Err causes.OldView
    else (if has_begun s.views.mode vote.stmt.view.0 then goes Taken (send_cert vote.by s.views.view_cert (begin s))
    else (if is_from vote.stmt.view.0 (slot_of vote.by s.views.changes) then Err causes.Repeat
    else change_judged R s vote (rule_of s.views.counts s.views.interval vote.stmt)))
