use Rattle.zy_base.specs.declared.ids.Party.TheVariants.{Replica}
use Rattle.zy_top_hosting.proofs.Bound.{bound_as}
use Rattle.zy_top_hosting.proofs.node.run_node.Goals as goal

pub returns-in-Ok-clause-bound : goal.returns-in-Ok-clause-bound
returns-in-Ok-clause-bound g c =
    bound_as (Replica c.args.id) c.in-Ok.seat.address (record { receives = g.L.Link.receives c.args.link.now; mail = g.L.Link.mail c.args.link.now }) (g.L.Link.binding c.args.link.now) (g.L.Link.binding c.serve.new.link) c.in-Ok.ensures.party c.serve.ensures.bound c.serve.result c.serve.ensures.turning
