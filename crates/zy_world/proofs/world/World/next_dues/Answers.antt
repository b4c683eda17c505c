use Rattle.std.proofs.Common.{length, map, ap, ◌∙◌, arith}
use Rattle.zy_world.specs.Shown.{Shown}
use Rattle.zy_world_law.specs.World.{is_told}
use Rattle.zy_world.proofs.Gathered.{are_batch, none_left}
use Rattle.zy_world.proofs.world.World.next_dues.Goals as goal

pub returns-clause-next : goal.returns-clause-next
returns-clause-next g c w s =
    are_batch w c.args.self.now s c.gather.ensures.within c.args.most _ _ c.new.ensures.items
    (c.in_ok-who_sits.ensures ∙ ap (λ (v : Shown g.row.M-State.Denot). map is_told v.seats.replicas) c.self.view_is) c.in_ok-gather.ensures.gathered

pub returns-clause-none : goal.returns-clause-none
returns-clause-none g c w s some empty =
    none_left w c.args.self.now s c.gather.ensures.within c.args.most _ _ c.new.ensures.items
    (c.in_ok-who_sits.ensures ∙ ap (λ (v : Shown g.row.M-State.Denot). map is_told v.seats.replicas) c.self.view_is) c.in_ok-gather.ensures.gathered some empty

pub returns-clause-most : goal.returns-clause-most
returns-clause-most g c = c.in_ok-gather.ensures.gathered.few (omega (arith, ap length c.new.ensures.items))
