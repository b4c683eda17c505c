use Rattle.std.proofs.Common.{◌≤◌, sym, subst}
use Rattle.zy_table.specs.Deeds.{Going}
use Rattle.zy_table.specs.State.{signs_left}
use Rattle.zy_change.proofs.AcceptedLemmas.{accepted_place}
use Rattle.zy_change.specs.Fit.{IsAccepted}
use Rattle.zy_replica_views.proofs.NewViewLemmas.{arrived_group, arrived_left}
use Rattle.zy_replica_views.proofs.confirming.confirm.Goals as goal

pub accept-requires-clause-left : goal.accept-requires-clause-left
accept-requires-clause-left g c =
    subst (λ (x : Going g.row.M-State.Denot). 1 ≤ signs_left x.state) (sym c.in_ok-arrived.ensures) (arrived_left g.M.Machine.rules c.args.new.stmt.view c.args.progress c.requires.left)

pub accept-requires-clause-accepted : goal.accept-requires-clause-accepted
accept-requires-clause-accepted g c =
    subst (λ (x : Going g.row.M-State.Denot). IsAccepted x.state.views.counts x.state.views.interval (record { new = c.args.new; chosen = c.args.chosen })) (sym c.in_ok-arrived.ensures)
    (arrived_group g.M.Machine.rules c.args.new.stmt.view c.args.progress (λ counts interval. IsAccepted counts interval (record { new = c.args.new; chosen = c.args.chosen })) c.requires.accepted)

pub accept-requires-clause-place : goal.accept-requires-clause-place
accept-requires-clause-place g c =
    accepted_place c.args.progress.state.views.counts c.args.progress.state.views.interval (record { new = c.args.new; chosen = c.args.chosen }) c.requires.accepted
