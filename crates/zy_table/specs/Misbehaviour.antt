-- What a replica makes of two orders of its primary for one place: it tells all, and leaves.
use Rattle.std.specs.Prelude.{nat_lt, if◌then◌else◌, Option, Some, None, Result, Ok, Err}
use Rattle.zy_base.specs.Machine.{Rules}
use Rattle.zy_base.specs.declared.cause.Cause.{Cause}
use Rattle.zy_base.specs.declared.cause.Cause.TheVariants as causes
use Rattle.zy_base.specs.declared.ids.View.{View}
use Rattle.zy_parts.specs.declared.signed.Signed.{Signed}
use Rattle.zy_parts.specs.declared.statements.Order.{Order}
use Rattle.zy_frames.specs.declared.frame.Frame.TheVariants as frames
use Rattle.zy_frames.specs.declared.frame.OrderFrame.{OrderFrame}
use Rattle.zy_cert.specs.Misbehaviour.{misbehaved}
use Rattle.zy_change.specs.Owing.{next_view}
use Rattle.zy_table.specs.declared.deeds.To.TheVariants.{All}
use Rattle.zy_table.specs.State.{State, own_view}
use Rattle.zy_table.specs.Deeds.{send, begin}
use Rattle.zy_table.specs.Leaving.{Attempt, leave}

-- ---- told by another

abbrev pub blamed : {S : Type 0} → Rules S → State S → Result View Cause → Attempt S
blamed R s (Err cause) = Err cause
blamed R s (Ok view) = leave R (next_view s.views) (begin s)

unfoldable pub pom : {S : Type 0} → Rules S → State S → Signed Order → Signed Order → Attempt S
pom R s first second =
    if nat_lt first.stmt.view.0 (own_view s) then Err causes.OldView
    else (if nat_lt (own_view s) first.stmt.view.0 then Err causes.NewerView
    else blamed R s (misbehaved first second))

-- ---- by an order that differs from the kept one of its place

-- without a kept order there is no second one
abbrev pub tell_all : {S : Type 0} → Rules S → State S → Signed Order → Option OrderFrame → Attempt S
tell_all R s order None = Err causes.Unmatched
tell_all R s order (Some kept) = leave R (next_view s.views) (send All (frames.Pom kept.order order) (begin s))
