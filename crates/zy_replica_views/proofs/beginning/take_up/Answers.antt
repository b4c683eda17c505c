use Rattle.std.proofs.Common.{◌≡◌, ◌≤◌, IfOk, length, sym, ap, subst}
use Rattle.zy_change.proofs.AcceptedLemmas.{accepted_provider}
use Rattle.zy_table.specs.Adopting.{checkpoints_between}
use Rattle.zy_table.specs.Beginning.{respond_up_to, take_up}
use Rattle.zy_table.specs.Deeds.{Going}
use Rattle.zy_table.specs.State.{is_leaving, signs_left}
use Rattle.zy_replica_views.proofs.BeginLemmas.{begun_left}
use Rattle.zy_replica_views.proofs.beginning.take_up.Goals as goal

pub respond_up_to-requires : goal.respond_up_to-requires
respond_up_to-requires g c =
    let R = g.M.Machine.rules in
    let s = c.args.progress.state in
    let cert = c.args.cert in
    let chosen = c.args.chosen in
    let provided = accepted_provider s.views.counts s.views.interval (record { new = cert.new; chosen = chosen }) c.requires.certified.accepted in
    let is = c.in_ok-begun.ensures provided.0 provided.1 in
    record {
      place = c.requires.certified.place;
      active = ap (λ (x : Going g.row.M-State.Denot). is_leaving x.state) is;
      left = subst (λ (x : Going g.row.M-State.Denot). length (checkpoints_between x.state.kept.interval x.state.board.stable.place.0 chosen.place.0) ≤ signs_left x.state) (sym is)
          (begun_left R cert chosen provided.0.stmt.told c.args.progress (c.requires.left provided.0 provided.1));
    }

pub returns : goal.returns
unfolding take_up
returns g c = λ provider there.
    subst (λ (x : Going g.row.M-State.Denot). IfOk c.respond_up_to.result (λ (end : Going g.row.M-State.Denot). end ≡ respond_up_to g.M.Machine.rules c.args.chosen.place.0 x))
    (c.in_ok-begun.ensures provider there) c.respond_up_to.ensures
