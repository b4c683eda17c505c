use Rattle.std.proofs.Common.{sym, subst}
use Rattle.zy_edge.specs.Faults.{IsCounted}
use Rattle.zy_node.specs.Replicas.{replica_rules}
use Rattle.zy_node.specs.Told.{Outside, TurnsTo, is_link_fault}
use Rattle.zy_node.proofs.node.Node.turn.Goals as goal

pub returns-clause-turn : goal.returns-clause-turn
returns-clause-turn g c =
    let from : Outside = record { mail = g.L.Link.mail c.args.link.now; receives = g.L.Link.receives c.args.link.now; moments = g.T.Clock.moments c.args.clock.now } in
    let to : Outside = record { mail = g.L.Link.mail c.turn.new.link; receives = g.L.Link.receives c.turn.new.link; moments = g.T.Clock.moments c.turn.new.clock } in
    let turned = subst (λ h. TurnsTo (replica_rules g.M.Machine.rules) h c.turn.result from to) c.self.view_is c.turn.ensures.turn in
    subst (λ r. TurnsTo (replica_rules g.M.Machine.rules) c.args.self r from to) (sym c.node_of.ensures) turned

pub returns-clause-count : goal.returns-clause-count
returns-clause-count g c =
    subst (λ r. IsCounted (is_link_fault r) (g.L.Link.faults c.args.link.now) (g.L.Link.faults c.turn.new.link)) (sym c.node_of.ensures) c.turn.ensures.count
