use Rattle.std.proofs.Common.{◌∙◌, subst}
use Rattle.std.proofs.lemmas.Result.{err_from_is_err_and}
use Rattle.zy_node.specs.Told.{FiresAs}
use Rattle.zy_node.proofs.TurnLemmas.{then_fires}
use Rattle.zy_node.proofs.host.Host.turn.Goals as goal

pub returns-in_err-host-clause-turn : goal.returns-in_err-host-clause-turn
returns-in_err-host-clause-turn g c =
    let p = err_from_is_err_and c.from_residual.result c.from_residual.ensures.1 in
    rw (p.1, p.2) (c.in_err-host.ensures.hears (g.T.Clock.moments c.args.clock.now))

pub returns-clause-turn : goal.returns-clause-turn
returns-clause-turn g c =
    let R = g.C.Core.rules in
    let now = c.now_ms-now.result in
    let between = g.L.Link.mail c.hear.new.link in
    let after = g.L.Link.mail c.fire_all.new.link in
    then_fires R c.args.self c.in_ok-host.host now c.fire_all.result (g.L.Link.receives c.args.link.now) (g.L.Link.receives c.fire_all.new.link)
    (g.T.Clock.moments c.args.clock.now) (g.T.Clock.moments c.now_ms-now.new.self) (g.L.Link.mail c.args.link.now) between after
    c.in_ok-host.ensures.hears (c.fire_all.ensures.receives ∙ c.in_ok-host.ensures.receives) c.now_ms-now.ensures.moments
    (subst (λ h. FiresAs R now h c.fire_all.result between after) c.read.ensures c.fire_all.ensures.fires)
