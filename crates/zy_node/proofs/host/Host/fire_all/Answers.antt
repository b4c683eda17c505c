use Rattle.std.proofs.lemmas.Result.{err_from_is_err_and}
use Rattle.zy_base.specs.declared.step.TimerKind.TheVariants as kinds
use Rattle.zy_node.proofs.TurnLemmas.{all_fire, change_fails}
use Rattle.zy_node.proofs.host.Host.fire_all.Goals as goal

pub returns-in_err-host-clause-fires : goal.returns-in_err-host-clause-fires
returns-in_err-host-clause-fires g c =
    let p = err_from_is_err_and c.from_residual.result c.from_residual.ensures.1 in
    rw (p.1, p.2) (kinds.Request, c.in_err-host.ensures.comes)

pub returns-in_err-host-2-clause-fires : goal.returns-in_err-host-2-clause-fires
returns-in_err-host-2-clause-fires g c =
    let p = err_from_is_err_and c.from_residual-in_err-host-2.result c.from_residual-in_err-host-2.ensures.1 in
    rw (p.1, p.2)
    (change_fails g.C.Core.rules c.args.now c.args.self c.in_ok-host.host c.in_err-host-2.field-0.0
    (g.L.Link.mail c.args.link.now) (g.L.Link.mail c.fire.new.link) (g.L.Link.mail c.fire-2.new.link) c.in_ok-host.ensures.comes c.in_err-host-2.ensures.comes)

pub returns-clause-fires : goal.returns-clause-fires
returns-clause-fires g c =
    all_fire g.C.Core.rules c.args.now c.args.self c.in_ok-host.host c.in_ok-host-2.host c.fire-3.result
    (g.L.Link.mail c.args.link.now) (g.L.Link.mail c.fire.new.link) (g.L.Link.mail c.fire-2.new.link) (g.L.Link.mail c.fire-3.new.link)
    c.in_ok-host.ensures.comes c.in_ok-host-2.ensures.comes c.fire-3.ensures.comes
