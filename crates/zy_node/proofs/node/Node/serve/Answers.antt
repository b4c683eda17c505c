use Rattle.std.proofs.Common.{refl, sym, subst}
use Rattle.zy_edge.specs.Faults.{IsCounted}
use Rattle.zy_node.specs.Replicas.{replica_rules}
use Rattle.zy_node.specs.Told.{Outside, RunsTo, ServesTo, is_link_fault}
use Rattle.zy_node.proofs.RunLemmas.{takes_all}
use Rattle.zy_node.proofs.node.Node.serve.Goals as goal

pub returns-clause-run : goal.returns-clause-run
returns-clause-run g c =
    let from : Outside = record { mail = g.L.Link.mail c.args.link.now; receives = g.L.Link.receives c.args.link.now; moments = g.T.Clock.moments c.args.clock.now } in
    let to : Outside = record { mail = g.L.Link.mail c.serve.new.link; receives = g.L.Link.receives c.serve.new.link; moments = g.T.Clock.moments c.serve.new.clock } in
    let R = replica_rules g.M.Machine.rules in
    let ran = subst (λ h. RunsTo R c.args.turns h c.serve.result from to) c.self.view_is c.serve.ensures.run in
    subst (λ r. ServesTo R c.args.turns c.args.self r from to) (sym c.node_of.ensures) (takes_all R c.args.turns c.args.self c.serve.result from to (λ s. refl) ran)

pub returns-clause-count : goal.returns-clause-count
returns-clause-count g c =
    subst (λ r. IsCounted (is_link_fault r) (g.L.Link.faults c.args.link.now) (g.L.Link.faults c.serve.new.link)) (sym c.node_of.ensures) c.serve.ensures.count
