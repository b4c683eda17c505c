use Rattle.std.proofs.Common.{sym, subst}
use Rattle.std.specs.Prelude.{IfOk}
use Rattle.zy_world.specs.Answered.{GoesTo}
use Rattle.zy_world_law.specs.Events.{Happened}
use Rattle.zy_world.proofs.Lies.{forged_as, forged_too_long}
use Rattle.zy_world.proofs.world.World.forges.Goals as goal

pub returns-in-Some : goal.returns-in-Some
returns-in-Some g c w s can =
    subst (λ (h : Happened g.row.M-State.Denot). IfOk c.sends.result (λ r. GoesTo h r.note r.world))
    (sym (forged_as w _ s c.args.party c.args.to.now c.args.statement can c.in-Some.bytes (rw c.in-Some.is at c.in_ok-bytes.ensures)))
    (c.sends.ensures w s)

pub returns-in-None : goal.returns-in-None
returns-in-None g c w s can =
    subst (λ (h : Happened g.row.M-State.Denot). GoesTo h c.no_subject.result.note c.no_subject.result.world)
    (sym (forged_too_long w _ s c.args.party c.args.to.now c.args.statement can (rw c.in-None.is at c.in_ok-bytes.ensures)))
    (c.no_subject.ensures.goes w (λ xs. xs) s)
