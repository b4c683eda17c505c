use Rattle.std.proofs.Common.{Some, sym, ◌∙◌, subst}
use Rattle.zy_world_setup.specs.Telling.{telling_of}
use Rattle.zy_world.specs.Answered.{GoesTo}
use Rattle.zy_world_law.specs.Events.{Happened}
use Rattle.zy_world_law.specs.Liars.{if_short}
use Rattle.zy_world.proofs.Lied.{no_forge}
use Rattle.zy_world.proofs.Lies.{can_forge_is}
use Rattle.zy_world.proofs.world.World.forge.Goals as goal

pub returns-then-can_forge : goal.returns-then-can_forge
returns-then-can_forge g c w s = c.forges.ensures w s (can_forge_is w _ s c.args.party c.args.to.now ∙ sym c.can_forge.ensures ∙ c.if-can_forge.true)

pub returns-else-can_forge : goal.returns-else-can_forge
returns-else-can_forge g c w s =
    subst (λ (h : Happened g.row.M-State.Denot). GoesTo h c.no_subject.result.note c.no_subject.result.world)
    (sym (no_forge w c.args.party c.args.to.now (if_short w.setup c.args.party (Some (telling_of c.args.statement))) (can_forge_is w _ s c.args.party c.args.to.now ∙ sym c.can_forge.ensures ∙ c.if-can_forge.false)))
    (c.no_subject.ensures.goes w (λ xs. xs) s)
