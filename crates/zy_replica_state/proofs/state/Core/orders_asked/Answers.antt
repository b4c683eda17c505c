use Rattle.zy_replica_state.proofs.ReadyLemmas.{asked_ready}
use Rattle.zy_replica_state.proofs.state.Core.orders_asked.Goals as goal

pub returns-clause-ready : goal.returns-clause-ready
returns-clause-ready g c =
    rw c.in_ok-orders_from.ensures (asked_ready c.args.hole.now.from.0 c.args.hole.now.to.0 c.self.inside.orders c.self.invariant.orders)
