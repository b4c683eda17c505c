use Rattle.std.proofs.Common.{◌≡◌, subst}
use Rattle.std.specs.Prelude.{IfOk}
use Rattle.zy_parts.specs.declared.reports.Began.{Began}
use Rattle.zy_parts.specs.declared.signed.Signed.{Signed}
use Rattle.zy_table.specs.State.{State}
use Rattle.zy_replica_views.proofs.CarryLemmas.{kept_same}
use Rattle.zy_replica_views.proofs.leaving.accept_core.Goals as goal

pub returns-clause-core : goal.returns-clause-core
returns-clause-core g c =
    let same = kept_same c.args.core c.in_ok-core.core c.args.accepted c.in_ok-core.own _ c.in_ok-core.ensures.core c.in_ok-core.ensures.began in
    subst (λ (s : State g.row.M-State.Denot). IfOk c.keep_accepted.result (λ (r : State g.row.M-State.Denot × Signed Began). r.0 ≡ s)) same c.keep_accepted.ensures.core
