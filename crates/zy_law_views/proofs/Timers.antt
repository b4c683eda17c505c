-- A timer that fires is lawful to the end of its row.
use Rattle.std.proofs.Common.{ℕ, List}
use Rattle.zy_base.specs.Machine.{Rules}
use Rattle.zy_base.specs.declared.step.Answer.TheVariants.{Taken}
use Rattle.zy_base.specs.declared.step.TimerKind.{TimerKind}
use Rattle.zy_base.specs.declared.step.TimerKind.TheVariants as timers
use Rattle.zy_chain.specs.declared.entry.Entry.{Entry}
use Rattle.zy_law.specs.World.{World}
use Rattle.zy_table.specs.Deeds.{begin}
use Rattle.zy_table.specs.Hates.{on_change_timer, on_request_timer}
use Rattle.zy_table.specs.State.{State}
use Rattle.zy_table.specs.Whole.{timer}
use Rattle.zy_law_views.specs.Texts.{Texts}
use Rattle.zy_law_views.proofs.HeardRows.{change_attempt, request_attempt}
use Rattle.zy_law_views.proofs.Leaves.{at_begin}
use Rattle.zy_law_views.specs.Rows.{IsReady}
use Rattle.zy_law_views.proofs.Adopting.{ends_lawfully, finishes_leaving}
use Rattle.zy_law_views.proofs.Taking.{ended}
use Rattle.zy_law_views.specs.Steps.{IsLawfulStep, IsWorldOf}

pub timer_lawful : {S : Type 0} (R : Rules S) (interval : ℕ) (texts : Texts) (w : World) (r : ℕ) (s : State S) (history : List Entry) → IsReady R interval w r s history → IsWorldOf R interval w texts
    → (kind : TimerKind) → IsLawfulStep R interval texts w r s history (timer R s kind)
timer_lawful R interval texts w r s history ready kept timers.Request =
    finishes_leaving R interval texts w r s history ready kept (on_request_timer R s s.views.mode) (request_attempt R interval w r s history ready s.views.mode)
timer_lawful R interval texts w r s history ready kept timers.Change =
    finishes_leaving R interval texts w r s history ready kept (on_change_timer R s s.views.mode) (change_attempt R interval w r s history ready s.views.mode)
timer_lawful R interval texts w r s history ready kept timers.Answer =
    ends_lawfully R interval texts w r s history (begin s) Taken (ended R interval texts w r s history ready kept (begin s) (at_begin R interval w r s history ready))
