use Rattle.std.proofs.Common.{◌<◌, ◌≤◌, sym, subst}
use Rattle.zy_exec.specs.Kept.{last_place}
use Rattle.zy_table.specs.State.{State, window_of}
use Rattle.zy_replica_state.proofs.ReadyLemmas.{ready_with_order}
use Rattle.zy_replica_state.proofs.state.Core.keep_order.Goals as goal

pub invariant_of-self : goal.invariant_of-self
invariant_of-self g c =
    let place = c.args.order.order.stmt.place.0 in
    rw c.in-Ok.ensures.ok
    (ready_with_order _ c.args.order c.self.invariant c.requires.order
    (subst (λ (s : State g.row.M-State.Denot). last_place s.kept < place) (sym c.self.view_is) c.requires.above)
    (subst (λ (s : State g.row.M-State.Denot). place ≤ window_of s) (sym c.self.view_is) c.requires.within))
