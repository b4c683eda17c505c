use Rattle.std.proofs.Common.{All, subst}
use Rattle.zy_change.specs.Fit.{IsGiven}
use Rattle.zy_table.specs.Deeds.{Going}
use Rattle.zy_replica_views.proofs.leaving.give_new.Goals as goal

pub returns-clause-reports : goal.returns-clause-reports
returns-clause-reports g c =
    subst (λ (x : Going g.row.M-State.Denot). All (IsGiven x.state.views.counts x.state.views.interval c.args.view) c.in_ok-core.new.stmt.changes) c.progress.view_is c.in_ok-core.ensures.reports
