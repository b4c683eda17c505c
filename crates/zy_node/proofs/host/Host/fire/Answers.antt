use Rattle.std.proofs.Common.{◌∙◌, sym}
use Rattle.zy_node.proofs.StepLemmas.{fired, not_fired}
use Rattle.zy_node.proofs.host.Host.fire.Goals as goal

pub returns-then-is_due-clause-comes : goal.returns-then-is_due-clause-comes
returns-then-is_due-clause-comes g c =
    fired g.C.Core.rules c.args.kind c.args.now c.args.self c.run_again.result c.step.result (g.L.Link.mail c.args.link.now) (g.L.Link.mail c.step.new.link)
    (sym c.is_due.ensures ∙ c.if-is_due.true) c.run_again.ensures c.step.ensures.comes

pub returns-else-is_due-clause-comes : goal.returns-else-is_due-clause-comes
returns-else-is_due-clause-comes g c = not_fired g.C.Core.rules c.args.kind c.args.now c.args.self (g.L.Link.mail c.args.link.now) (sym c.is_due.ensures ∙ c.if-is_due.false)
