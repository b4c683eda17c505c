-- What a replica makes of another's wish for its stable snapshot, and of a snapshot that comes.
use Rattle.std.specs.Prelude.{ℕ, List, [], Option, Some, None, Err}
use Rattle.zy_base.specs.Machine.{Rules}
use Rattle.zy_base.specs.declared.cause.Cause.{Cause}
use Rattle.zy_base.specs.declared.cause.Cause.TheVariants as causes
use Rattle.zy_base.specs.declared.ids.Place.{Place}
use Rattle.zy_base.specs.declared.step.Answer.TheVariants.{Taken}
use Rattle.zy_parts.specs.declared.signed.Signed.{Signed}
use Rattle.zy_parts.specs.declared.reports.Change.{Change}
use Rattle.zy_parts.specs.declared.reports.Fetch.{Fetch}
use Rattle.zy_parts.specs.declared.reports.Told.{Told}
use Rattle.zy_vframes.specs.declared.frame.ViewFrame.TheVariants as frames
use Rattle.zy_check.specs.States.{fetch_cause, state_cause}
use Rattle.zy_exec.specs.Replay.{Point}
use Rattle.zy_exec.specs.Snapshot.{snapshot_of}
use Rattle.zy_change.specs.declared.kept.Waiting.{Waiting}
use Rattle.zy_change.specs.Owing.{provider_in}
use Rattle.zy_table.specs.declared.deeds.To.TheVariants.{One}
use Rattle.zy_table.specs.State.{State}
use Rattle.zy_table.specs.Deeds.{send_view, begin}
use Rattle.zy_table.specs.Gathering.{settled_at}
use Rattle.zy_table.specs.Leaving.{Attempt, goes}
use Rattle.zy_table.specs.Beginning.{adopt, wanted_of}
use Rattle.zy_exec.specs.Showing.{point_in}

-- ---- another fetches the stable snapshot

-- the snapshot at the base of the history, which is the stable one
abbrev pub fetch_judged : {S : Type 0} → Rules S → State S → Signed Fetch → Option Cause → Attempt S
fetch_judged R s vote (Some cause) = Err cause
fetch_judged R s vote None =
    goes Taken (send_view (One vote.by) (frames.State vote.stmt.place (snapshot_of R s.kept.base)) (begin s))

unfoldable pub fetch : {S : Type 0} → Rules S → State S → Signed Fetch → Attempt S
fetch R s vote = fetch_judged R s vote (fetch_cause s.board.stable vote.stmt)

-- ---- a snapshot comes

-- It stands at what it shows, which is stable by the report's proof: nothing that it had is above or below.
abbrev pub installed : {S : Type 0} → Rules S → Point S → Told → State S → State S
installed R point told s =
    settled_at R point.place told.checks
    (record s { kept = record { interval = s.kept.interval; base = point; entries = [] } })

-- and the choice is adopted from there
abbrev pub install : {S : Type 0} → Rules S → State S → Waiting → Told → Option (Point S) → Attempt S
install R s w told None = Err causes.NotState
install R s w told (Some point) = adopt R w.cert w.chosen (begin (installed R point told s))

abbrev pub state_judged : {S : Type 0} → Rules S → State S → Waiting → Told → List ℕ → Option Cause → Attempt S
state_judged R s w told bytes (Some cause) = Err cause
state_judged R s w told bytes None = install R s w told (point_in R told.stable_place told.stable_head bytes)

abbrev pub state_for : {S : Type 0} → Rules S → State S → Waiting → Place → List ℕ → Option (Signed Change) → Attempt S
state_for R s w place bytes None = Err causes.Unmatched
state_for R s w place bytes (Some provider) =
    let told = provider.stmt.told in
    state_judged R s w told bytes (state_cause (wanted_of told) place bytes)

-- a certificate waits, for the stable snapshot of the report that gives its choice
abbrev pub state_heard : {S : Type 0} → Rules S → State S → Place → List ℕ → Option Waiting → Attempt S
state_heard R s place bytes None = Err causes.Unmatched
state_heard R s place bytes (Some w) =
    state_for R s w place bytes (provider_in (record { new = w.cert.new; chosen = w.chosen }))

unfoldable pub state_transfer : {S : Type 0} → Rules S → State S → Place → List ℕ → Attempt S
state_transfer R s place bytes = state_heard R s place bytes s.views.waiting
