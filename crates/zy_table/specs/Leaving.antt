-- How a replica leaves its view: it says so with its report, and as the new view's primary it gives the reports of enough
-- replicas and confirms the choice out of them.
use Rattle.std.specs.Prelude.{ℕ, ◌^◌, nat_lt, Bool, if◌then◌else◌, [], ◌∷◌, replicate, None, Result, Ok, Err}
use Rattle.zy_base.specs.Machine.{Rules}
use Rattle.zy_base.specs.declared.cause.Cause.{Cause}
use Rattle.zy_base.specs.declared.cause.Cause.TheVariants as causes
use Rattle.zy_base.specs.declared.ids.View.{View}
use Rattle.zy_base.specs.declared.step.Answer.{Answer}
use Rattle.zy_base.specs.declared.step.Answer.TheVariants.{Taken}
use Rattle.zy_parts.specs.Numbers as numbers
use Rattle.zy_parts.specs.Reports.{change_fields, new_fields, began_fields}
use Rattle.zy_parts.specs.declared.signed.Signed.{Signed}
use Rattle.zy_parts.specs.declared.reports.Began.{Began}
use Rattle.zy_parts.specs.declared.reports.Change.{Change}
use Rattle.zy_parts.specs.declared.reports.New.{New}
use Rattle.zy_parts.specs.declared.reports.Told.{Told}
use Rattle.zy_vframes.specs.declared.frame.ViewFrame.TheVariants as frames
use Rattle.zy_choose.specs.declared.choice.Choice.{Choice}
use Rattle.zy_choose.specs.declared.choice.Choice.TheVariants as choices
use Rattle.zy_exec.specs.Kept.{last_place, stretch_of}
use Rattle.zy_seal.specs.Sealing.{SealerState, sealed_by, signatures_by}
use Rattle.zy_admit.specs.Orders.{orders_up_to}
use Rattle.zy_change.specs.declared.kept.Accepted.{Accepted}
use Rattle.zy_change.specs.declared.kept.Chosen.{Chosen}
use Rattle.zy_change.specs.Views.{told_of, began_for, left, with_change, with_new}
use Rattle.zy_change.specs.Owing.{change_to, new_of, is_gathering, choice_in}
use Rattle.zy_table.specs.declared.deeds.To.TheVariants.{All}
use Rattle.zy_table.specs.declared.deeds.Body.TheVariants as bodies
use Rattle.zy_table.specs.declared.deeds.Act.TheVariants.{Says}
use Rattle.zy_table.specs.State.{State, stood_of, spent}
use Rattle.zy_table.specs.Deeds.{Going, Outcome, refused, ends, send_view, act}

-- ---- a step that may fail on its way

-- what it comes to, or why it is refused; it goes on past the last signature of the key
abbrev pub Attempt : Type 0 → Type 0
Attempt S = Result (Answer × Going S) Cause

abbrev pub goes : {S : Type 0} → Answer → Going S → Attempt S
goes answer g = Ok (answer, g)

-- more was signed than the key gives signatures
abbrev pub is_overspent : SealerState → Bool
is_overspent sealer = nat_lt (signatures_by sealer.key.height) sealer.key.next

-- the signatures left are judged here alone, after every other cause against the step
abbrev pub concluded : {S : Type 0} → State S → Attempt S → Outcome S
concluded s (Err cause) = refused cause s
concluded s (Ok end) = if is_overspent end.1.state.sealer then refused causes.KeySpent s else ends end.0 end.1

-- ---- the report

-- what it tells of its last view: its certificates, its stable checkpoint and the entries above it
abbrev pub report_of : {S : Type 0} → State S → Told
report_of s =
    let stable = s.board.stable in
    told_of s.views (stable.view, stable.place, stable.head, stable.state) s.board.proof (stretch_of s.kept)

-- what waits in its view is dropped
abbrev pub without_waiting : {S : Type 0} → State S → State S
without_waiting s =
    record s { orders = orders_up_to (last_place s.kept) s.orders; hole = None; pending = replicate 64 None }

abbrev pub sealed_change : {S : Type 0} → State S → View → Signed Change
sealed_change s view = sealed_by numbers.change change_fields s.sealer (change_to view (report_of s))

-- the report is kept as its own, and the replica waits for the view to begin
abbrev pub left_with : {S : Type 0} → View → Signed Change → State S → State S
left_with view change s = record (without_waiting s) { views = left view (with_change change s.views) }

-- The report is signed, kept and sent to all. It is said when the view is left already.
unfoldable pub leave_alone : {S : Type 0} → Rules S → View → Going S → Going S
leave_alone R view g =
    let change = sealed_change g.state view in
    let after = left_with view change g.state in
    send_view All (frames.ViewChange change)
    (act (Says (record { body = bodies.Change change.stmt; stood = stood_of R after }))
    (record g { state = spent after }))

-- ---- the new view's primary

-- a confirmation of the choice is signed, kept with the new view, and sent to all
unfoldable pub accept : {S : Type 0} → Rules S → Accepted → Going S → Going S
accept R a g =
    let began = sealed_by numbers.began began_fields g.state.sealer (began_for a.new.stmt.view a.chosen) in
    send_view All (frames.ViewConfirm began)
    (act (Says (record { body = bodies.Began began.stmt; stood = stood_of R g.state }))
    (record g { state = record (spent g.state) { views = with_new a began g.state.views } }))

-- the reports of enough replicas are signed, and sent to all
unfoldable pub give_new : {S : Type 0} → Rules S → Signed New → Going S → Going S
give_new R new g =
    send_view All (frames.NewView new)
    (act (Says (record { body = bodies.New new.stmt; stood = stood_of R g.state }))
    (record g { state = spent g.state }))

abbrev pub sealed_new : {S : Type 0} → State S → View → Signed New
sealed_new s view = sealed_by numbers.new new_fields s.sealer (new_of s.views view)

-- what is chosen out of them is confirmed
abbrev pub given : {S : Type 0} → Rules S → View → Choice → Going S → Attempt S
given R view (choices.AnchorClash first second) g = Err (causes.AnchorClash first second)
given R view (choices.Chosen provider place head) g =
    let new = sealed_new g.state view in
    let chosen : Chosen = record { provider = provider; place = place; head = head } in
    goes Taken (accept R (record { new = new; chosen = chosen }) (give_new R new g))

-- where it leads the view, gave no new view for it yet, and keeps enough reports
abbrev pub collect : {S : Type 0} → Rules S → View → Going S → Attempt S
collect R view g =
    if is_gathering g.state.views view.0 then given R view (choice_in g.state.views view.0) g else goes Taken g

-- no view has the number 2^62 or a greater one
unfoldable pub leave : {S : Type 0} → Rules S → View → Going S → Attempt S
leave R view g = if nat_lt view.0 (2 ^ 62) then collect R view (leave_alone R view g) else Err causes.NewerView
