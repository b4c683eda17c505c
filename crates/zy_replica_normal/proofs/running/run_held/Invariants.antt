use Rattle.std.proofs.Common.{◌≡◌, ◌+◌, length}
use Rattle.std.specs.Prelude.{if◌then◌else◌, false, IsFalse}
use Rattle.zy_table.specs.State.{is_leaving}
use Rattle.zy_table.specs.Running.{run_held}
use Rattle.zy_replica_normal.proofs.HeldLemmas.{held_slots}
use Rattle.zy_replica_normal.proofs.running.run_held.Given as goal

abbrev pub invariant-loop-more : goal.invariant-loop-more
invariant-loop-more g l =
    (run_held g.M.Machine.rules (held_slots l.progress) l.progress ≡ run_held g.M.Machine.rules (held_slots l.fn.progress) l.fn.progress)
    × (is_leaving l.progress.state ≡ false)
    × (IsFalse l.more → run_held g.M.Machine.rules (held_slots l.progress) l.progress ≡ l.progress)

abbrev pub decreases-loop-more : goal.decreases-loop-more
decreases-loop-more g l = length (held_slots l.progress) + (if l.more then 1 else 0)
