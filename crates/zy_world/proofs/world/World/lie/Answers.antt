use Rattle.std.proofs.Common.{sym, ◌∙◌, subst}
use Rattle.zy_world.specs.Tale.{told_by}
use Rattle.zy_world.specs.Answered.{GoesTo}
use Rattle.zy_world_law.specs.Events.{Happened}
use Rattle.zy_world.proofs.Lied.{no_lie}
use Rattle.zy_world.proofs.Lies.{can_lie_is}
use Rattle.zy_world.proofs.world.World.lie.Goals as goal

pub returns-then-can_lie : goal.returns-then-can_lie
returns-then-can_lie g c w s = c.lies.ensures w s (can_lie_is w _ s c.args.liar c.args.to.now ∙ sym c.can_lie.ensures ∙ c.if-can_lie.true)

pub returns-else-can_lie : goal.returns-else-can_lie
returns-else-can_lie g c w s =
    subst (λ (h : Happened g.row.M-State.Denot). GoesTo h c.no_subject.result.note c.no_subject.result.world)
    (sym (no_lie w c.args.liar c.args.to.now (told_by w.setup c.args.liar c.args.tale) (can_lie_is w _ s c.args.liar c.args.to.now ∙ sym c.can_lie.ensures ∙ c.if-can_lie.false)))
    (c.no_subject.ensures.goes w (λ xs. xs) s)
