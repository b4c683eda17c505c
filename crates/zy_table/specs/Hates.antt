-- What a replica makes of a hate of its view, another's or its own, and of its timers.
use Rattle.std.specs.Prelude.{ℕ, nat_eq, nat_lt, Bool, if◌then◌else◌, Option, Some, None, Ok, Err, is_some}
use Rattle.std.specs.List.{list_any}
use Rattle.zy_base.specs.Machine.{Rules}
use Rattle.zy_base.specs.declared.cause.Cause.TheVariants as causes
use Rattle.zy_base.specs.declared.ids.Party.{Party}
use Rattle.zy_base.specs.declared.ids.Party.TheVariants.{Replica}
use Rattle.zy_base.specs.declared.ids.View.{View}
use Rattle.zy_base.specs.declared.step.Answer.TheVariants.{Taken}
use Rattle.zy_base.specs.declared.step.Mode.{Mode}
use Rattle.zy_base.specs.declared.step.Mode.TheVariants.{Active, Leaving}
use Rattle.zy_parts.specs.Numbers as numbers
use Rattle.zy_parts.specs.Statements.{hate_fields}
use Rattle.zy_parts.specs.declared.signed.Signed.{Signed}
use Rattle.zy_parts.specs.declared.reports.Change.{Change}
use Rattle.zy_parts.specs.declared.statements.Hate.{Hate}
use Rattle.zy_parts.specs.declared.statements.Hole.{Hole}
use Rattle.zy_frames.specs.declared.frame.Frame.TheVariants as frames
use Rattle.zy_vframes.specs.declared.frame.ViewFrame.TheVariants as view_frames
use Rattle.zy_seal.specs.Sealing.{sealed_by}
use Rattle.zy_change.specs.Views.{change_for, own_change, is_hated_by, with_hate}
use Rattle.zy_change.specs.Owing.{hated_by_many, next_view}
use Rattle.zy_table.specs.declared.deeds.To.TheVariants.{All}
use Rattle.zy_table.specs.declared.deeds.Body.TheVariants as bodies
use Rattle.zy_table.specs.declared.deeds.Act.TheVariants.{Says}
use Rattle.zy_table.specs.State.{State, own_view, spent, stood_of}
use Rattle.zy_table.specs.Deeds.{Going, send, send_view, act, begin}
use Rattle.zy_table.specs.Leaving.{Attempt, goes, leave}

abbrev pub with_hate_of : {S : Type 0} → Party → Going S → Going S
with_hate_of by g = record g { state = record g.state { views = with_hate by g.state.views } }

-- with one more hate of the own view than lying replicas alone can send, it leaves
abbrev pub hate_counted : {S : Type 0} → Rules S → Going S → Attempt S
hate_counted R g = if hated_by_many g.state.views then leave R (next_view g.state.views) g else goes Taken g

-- ---- another's

abbrev pub hate_of : {S : Type 0} → Rules S → State S → Party → View → Attempt S
hate_of R s by view =
    if nat_lt view.0 (own_view s) then Err causes.OldView
    else (if nat_lt (own_view s) view.0 then Err causes.NewerView
    else (if is_hated_by s.views by then Err causes.Repeat
    else hate_counted R (with_hate_of by (begin s))))

unfoldable pub hate : {S : Type 0} → Rules S → State S → Signed Hate → Attempt S
hate R s vote = hate_of R s vote.by vote.stmt.view

-- ---- the own one

abbrev pub hate_for : ℕ → Option (Signed Hate) → Option (Signed Hate)
hate_for view None = None
hate_for view (Some said) = if nat_eq said.stmt.view.0 view then Some said else None

-- the own hate of the own view, where it was said
abbrev pub own_hate : {S : Type 0} → State S → Option (Signed Hate)
own_hate s = hate_for (own_view s) s.hate

abbrev pub hate_now : {S : Type 0} → State S → Hate
hate_now s = record { view = record { 0 = own_view s } }

-- it is signed where it wasn't, and kept for good
abbrev pub say_hate : {S : Type 0} → Rules S → Option (Signed Hate) → Going S → Going S
say_hate R (Some said) g = send All (frames.Hate said) g
say_hate R None g =
    let said = sealed_by numbers.hate hate_fields g.state.sealer (hate_now g.state) in
    send All (frames.Hate said)
    (act (Says (record { body = bodies.Hate said.stmt; stood = stood_of R g.state }))
    (record g { state = record (spent g.state) { hate = Some said } }))

-- It goes to all, and is counted as one that is heard.
abbrev pub count_own : {S : Type 0} → Rules S → Going S → Attempt S
count_own R g =
    if is_hated_by g.state.views (Replica g.state.me) then goes Taken g
    else hate_counted R (with_hate_of (Replica g.state.me) g)

unfoldable pub hate_from : {S : Type 0} → Rules S → Going S → Attempt S
hate_from R g = count_own R (say_hate R (own_hate g.state) g)

abbrev pub hate_view : {S : Type 0} → Rules S → State S → Attempt S
hate_view R s = hate_from R (begin s)

-- ---- the timers

-- the missing orders are asked for again, of all, while it is in its view
abbrev pub ask_for_hole : {S : Type 0} → Mode → Option (Signed Hole) → Going S → Going S
ask_for_hole (Active view) (Some hole) g = send All (frames.FillHole hole) g
ask_for_hole (Active view) None g = g
ask_for_hole (Leaving view) hole g = g

abbrev pub then_ask : {S : Type 0} → Attempt S → Attempt S
then_ask (Err cause) = Err cause
then_ask (Ok end) = goes end.0 (ask_for_hole end.1.state.views.mode end.1.state.hole end.1)

-- a request waits for its order
abbrev pub has_pending : {S : Type 0} → State S → Bool
has_pending s = list_any is_some s.pending

abbrev pub on_request_timer : {S : Type 0} → Rules S → State S → Mode → Attempt S
on_request_timer R s (Active view) = then_ask (if has_pending s then hate_view R s else goes Taken (begin s))
on_request_timer R s (Leaving view) = goes Taken (begin s)

-- what it said as it left for its view goes to all again
abbrev pub change_again : {S : Type 0} → Option (Signed Change) → Going S → Going S
change_again None g = g
change_again (Some change) g = send_view All (view_frames.ViewChange change) g

-- and the view for which it leaves is hated, since it doesn't begin
abbrev pub on_change_timer : {S : Type 0} → Rules S → State S → Mode → Attempt S
on_change_timer R s (Active view) = goes Taken (begin s)
on_change_timer R s (Leaving view) = hate_from R (change_again (change_for (own_view s) (own_change s.views)) (begin s))
