use Rattle.std.proofs.Common.{◌≡◌, Some, None, sym, ◌∙◌, subst}
use Rattle.std.specs.Prelude.{IfOk}
use Rattle.zy_world.specs.Answered.{GoesTo}
use Rattle.zy_world.specs.Tale.{if_replica}
use Rattle.zy_world_law.specs.Events.{Happened}
use Rattle.zy_world_law.specs.Liars.{order_told, requests_at}
use Rattle.zy_world.proofs.Lies.{lie_told}
use Rattle.zy_world.proofs.world.World.lie_order.Goals as goal

pub returns-in-Some : goal.returns-in-Some
returns-in-Some g c w s =
    let found : Some c.in-Some.asks ≡ if_replica c.args.liar (requests_at w c.args.asks.now) = sym c.in-Some.is ∙ c.in_ok-asks.ensures.value w s in
    subst (λ (h : Happened g.row.M-State.Denot). IfOk c.lie.result (λ r. GoesTo h r.note r.world))
    (sym (lie_told w c.args.liar c.args.to.now (order_told c.args.view) (requests_at w c.args.asks.now) (Some c.in-Some.asks) found))
    (c.lie.ensures w s)

pub returns-in-None : goal.returns-in-None
returns-in-None g c w s =
    let found : None ≡ if_replica c.args.liar (requests_at w c.args.asks.now) = sym c.in-None.is ∙ c.in_ok-asks.ensures.value w s in
    subst (λ (h : Happened g.row.M-State.Denot). GoesTo h c.no_subject.result.note c.no_subject.result.world)
    (sym (lie_told w c.args.liar c.args.to.now (order_told c.args.view) (requests_at w c.args.asks.now) None found))
    (c.no_subject.ensures.goes w (λ xs. xs) s)
