use Rattle.zy_replica_state.proofs.ReadyLemmas.{report_short}
use Rattle.zy_replica_state.proofs.state.Core.report.Goals as goal

pub returns-clause-short : goal.returns-clause-short
returns-clause-short g c =
    report_short _ c.self.invariant c.told.result c.stable.result c.proof.result.now c.spine.result.now c.told.ensures.told c.stable.ensures c.proof.ensures.list c.spine.ensures
