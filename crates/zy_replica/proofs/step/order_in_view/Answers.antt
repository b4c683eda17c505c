use Rattle.zy_replica_normal.proofs.ScreenLemmas.{order_heard}
use Rattle.zy_replica.proofs.step.order_in_view.Goals as goal

pub order_or_blame-requires : goal.order_or_blame-requires
order_or_blame-requires g c = record { active = c.in-None.ensures.active; order = order_heard c.args.core c.args.both c.requires.clients c.requires.range c.requires.verified c.requires.role }
