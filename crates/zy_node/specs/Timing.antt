-- When the timers of a node run out.
use Rattle.std.specs.Prelude.{ℕ, ◌+◌, nat_le, Bool, true, false, Option, Some, None}
use Rattle.zy_base.specs.declared.step.TimerKind.{TimerKind}
use Rattle.zy_base.specs.declared.step.TimerKind.TheVariants as kinds
use Rattle.zy_base.specs.declared.step.Timers.{Timers}
use Rattle.zy_node.specs.declared.due.Due.{Due}

-- in milliseconds
abbrev pub period_of : TimerKind → ℕ
period_of kinds.Request = 500
period_of kinds.Change = 2000
period_of kinds.Answer = 400

-- The moment at which a timer runs out. None where it isn't to run, and from when it begins to run until the next reading
-- of the clock.
abbrev pub moment_of : TimerKind → Due → Option ℕ
moment_of kinds.Request due = due.request
moment_of kinds.Change due = due.change
moment_of kinds.Answer due = due.answer

abbrev pub no_moments : Due
no_moments = record { request = None; change = None; answer = None }

-- ---- a step: a timer that is no longer to run has no moment, and the others keep theirs

abbrev pub kept : Bool → Option ℕ → Option ℕ
kept true moment = moment
kept false moment = None

abbrev pub kept_for : Timers → Due → Due
kept_for timers due = record {
  request = kept timers.request due.request;
  change = kept timers.change due.change;
  answer = kept timers.answer due.answer;
}

-- ---- a reading of the clock: a timer that has begun to run since the last one runs out after its period

abbrev pub begun : ℕ → Bool → Option ℕ → Option ℕ
begun moment runs (Some earlier) = Some earlier
begun moment true None = Some moment
begun moment false None = None

abbrev pub begun_at : ℕ → Timers → Due → Due
begun_at now timers due = record {
  request = begun (now + period_of kinds.Request) timers.request due.request;
  change = begun (now + period_of kinds.Change) timers.change due.change;
  answer = begun (now + period_of kinds.Answer) timers.answer due.answer;
}

-- ---- a timer that fires: the moment has come, and the next one is a period later

abbrev pub is_reached : ℕ → Option ℕ → Bool
is_reached now None = false
is_reached now (Some moment) = nat_le moment now

abbrev pub again_at : ℕ → TimerKind → Due → Due
again_at now kinds.Request due = record due { request = Some (now + period_of kinds.Request) }
again_at now kinds.Change due = record due { change = Some (now + period_of kinds.Change) }
again_at now kinds.Answer due = record due { answer = Some (now + period_of kinds.Answer) }
