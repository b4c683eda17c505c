use Rattle.std.proofs.lemmas.Result.{err_from_is_err_and}
use Rattle.zy_node.specs.Turn.{takes}
use Rattle.zy_node.proofs.SendLemmas.{nothing_sent}
use Rattle.zy_node.proofs.StepLemmas.{takes_part, takes_refused, takes_whole}
use Rattle.zy_node.proofs.host.Host.take.Goals as goal

pub returns-in_err-frame-clause-comes : goal.returns-in_err-frame-clause-comes
returns-in_err-frame-clause-comes g c =
    let p = err_from_is_err_and c.from_residual.result c.from_residual.ensures.1 in
    rw (p.1, p.2) (nothing_sent (takes g.C.Core.rules c.args.datagram.now c.args.self).sent (g.L.Link.mail c.args.link.now))

pub returns-in-Whole-clause-comes : goal.returns-in-Whole-clause-comes
returns-in-Whole-clause-comes g c =
    takes_whole g.C.Core.rules c.args.datagram.now c.args.self c.gather.new.self c.in_ok-frame.field-0 c.in_ok-frame.ensures.answer c.in_ok-frame.ensures.host
    c.in-Whole.frame c.step.result (g.L.Link.mail c.args.link.now) (g.L.Link.mail c.step.new.link) c.in-Whole.is c.step.ensures.comes

pub returns-in-Part-clause-comes : goal.returns-in-Part-clause-comes
returns-in-Part-clause-comes g c =
    takes_part g.C.Core.rules c.args.datagram.now c.args.self c.gather.new.self c.in_ok-frame.field-0 c.in_ok-frame.ensures.answer c.in_ok-frame.ensures.host
    (g.L.Link.mail c.args.link.now) c.in-Part.is

pub returns-in-Refused-clause-comes : goal.returns-in-Refused-clause-comes
returns-in-Refused-clause-comes g c =
    takes_refused g.C.Core.rules c.args.datagram.now c.args.self c.gather.new.self c.in_ok-frame.field-0 c.in_ok-frame.ensures.answer c.in_ok-frame.ensures.host
    c.in-Refused.field-0 (g.L.Link.mail c.args.link.now) c.in-Refused.is
