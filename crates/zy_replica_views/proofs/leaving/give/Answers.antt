use Rattle.std.proofs.Common.{◌≡◌, subst}
use Rattle.std.specs.Prelude.{IfOk}
use Rattle.zy_table.specs.Deeds.{Going}
use Rattle.zy_replica_views.proofs.CarryLemmas.{given_left, given_accepted, given_all}
use Rattle.zy_replica_views.proofs.leaving.give.Goals as goal

pub accept-requires-clause-left : goal.accept-requires-clause-left
accept-requires-clause-left g c =
    given_left g.M.Machine.rules c.args.progress c.in_ok-progress.progress c.args.view c.args.chosen c.in_ok-progress.new c.in_ok-progress.ensures.progress c.in_ok-progress.ensures.new c.requires.left

pub accept-requires-clause-accepted : goal.accept-requires-clause-accepted
accept-requires-clause-accepted g c =
    given_accepted g.M.Machine.rules c.args.progress c.in_ok-progress.progress c.args.view c.args.chosen c.in_ok-progress.new c.in_ok-progress.ensures.progress c.in_ok-progress.ensures.new c.in_ok-progress.ensures.sends.0
    c.in_ok-progress.ensures.reports c.requires.chosen

pub returns : goal.returns
returns g c =
    let same = given_all g.M.Machine.rules c.args.progress c.in_ok-progress.progress c.args.view c.args.chosen c.in_ok-progress.new c.in_ok-progress.ensures.progress c.in_ok-progress.ensures.new in
    subst (λ (x : Going g.row.M-State.Denot). IfOk c.accept.result (λ (end : Going g.row.M-State.Denot). end ≡ x)) same c.accept.ensures
