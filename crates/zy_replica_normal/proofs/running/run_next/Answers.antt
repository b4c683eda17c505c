use Rattle.std.proofs.Common.{◌≡◌, ◌≤◌, ◌+◌, None, sym, subst, ◌∙◌}
use Rattle.zy_exec.specs.Kept.{last_place}
use Rattle.zy_admit.specs.Orders.{stored_in}
use Rattle.zy_table.specs.Deeds.{Going}
use Rattle.zy_replica_normal.proofs.SlotLemmas.{next_none}
use Rattle.zy_replica_normal.proofs.running.run_next.Goals as goal

pub returns-in-None-clause-ended : goal.returns-in-None-clause-ended
returns-in-None-clause-ended g c ended =
    next_none g.M.Machine.rules c.args.progress.state.orders (last_place c.args.progress.state.kept) c.args.progress
    (subst (λ (x : Going g.row.M-State.Denot). x.state.orders.base ≤ last_place x.state.kept) c.progress.view_is c.in_ok-next_held.ensures.base)
    (subst (λ (x : Going g.row.M-State.Denot). stored_in x.state.orders (last_place x.state.kept + 1) ≡ None) c.progress.view_is
    (sym c.in_ok-next_held.ensures.held ∙ c.in-None.is))

pub run_if_fits-ran-requires-clause-ready : goal.run_if_fits-ran-requires-clause-ready
run_if_fits-ran-requires-clause-ready g c = c.in_ok-next_held.ensures.ready c.in-Some.held c.in-Some.is
