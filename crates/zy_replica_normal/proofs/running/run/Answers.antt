use Rattle.std.proofs.Common.{◌≡◌, subst}
use Rattle.std.specs.Prelude.{IfOk}
use Rattle.zy_table.specs.Deeds.{Going}
use Rattle.zy_table.specs.Running.{run_held}
use Rattle.zy_replica_normal.proofs.HeldLemmas.{held_slots, run_is}
use Rattle.zy_replica_normal.proofs.running.run.Goals as goal

pub returns : goal.returns
returns g c =
    rw (run_is g.M.Machine.rules c.args.progress c.run_one.ensures.base c.args.frame.now)
    (subst (λ (x : Going g.row.M-State.Denot). IfOk c.run_held.result (λ (held : Going g.row.M-State.Denot). held ≡ run_held g.M.Machine.rules (held_slots x) x))
    c.in_ok-run_one.ensures.progress c.run_held.ensures)
