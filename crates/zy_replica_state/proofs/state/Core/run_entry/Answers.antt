use Rattle.std.proofs.Common.{◌<◌, sym, subst}
use Rattle.zy_exec.specs.Kept.{last_place}
use Rattle.zy_table.specs.State.{State, window_of}
use Rattle.zy_replica_state.proofs.ReadyLemmas.{ready_longer}
use Rattle.zy_replica_state.proofs.state.Core.run_entry.Goals as goal

pub invariant_of-self : goal.invariant_of-self
invariant_of-self g c =
    let room = subst (λ (s : State g.row.M-State.Denot). last_place s.kept < window_of s) (sym c.self.view_is) c.requires.room in
    rw c.in-Ok.ensures.after (ready_longer _ c.self.invariant c.args.entry room c.requires.client c.requires.range)
