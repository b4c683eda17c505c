use Rattle.std.proofs.Common.{◌∙◌, take, Some, None, Ok, refl, arith}
use Rattle.zy_node.proofs.HearLemmas.{datagram_moves, quiet_moves}
use Rattle.zy_node.proofs.SendLemmas.{Sends-nil}
use Rattle.zy_node.proofs.TurnLemmas.{fails_at_once, hears_to}
use Rattle.zy_node.proofs.host.Host.hear.Goals as goal

pub returns-in-Datagram-clause-hears : goal.returns-in-Datagram-clause-hears
returns-in-Datagram-clause-hears g c =
    let datagram = take c.in-Datagram.len c.receive.new.buf in
    let before = g.L.Link.mail c.args.link.now in
    let between = g.L.Link.mail c.receive.new.self in
    hears_to g.C.Core.rules c.args.self (Some datagram) c.take.result (g.L.Link.receives c.args.link.now) (g.L.Link.receives c.take.new.link) before between (g.L.Link.mail c.take.new.link)
    (datagram_moves c.in-Datagram.len c.receive.new.buf datagram before between (omega (arith, c.receive.auto.buf)) refl c.in-Datagram.ensures.mail)
    (c.take.ensures.receives ∙ c.in-Datagram.ensures.receives) c.take.ensures.comes

pub returns-in-Quiet-clause-hears : goal.returns-in-Quiet-clause-hears
returns-in-Quiet-clause-hears g c =
    let before = g.L.Link.mail c.args.link.now in
    let after = g.L.Link.mail c.receive.new.self in
    hears_to g.C.Core.rules c.args.self None (Ok c.args.self) (g.L.Link.receives c.args.link.now) (g.L.Link.receives c.receive.new.self) before after after
    (quiet_moves c.receive.new.buf before after c.in-Quiet.ensures.mail) c.in-Quiet.ensures.receives (refl, Sends-nil after)

pub returns-in-Failed-clause-hears : goal.returns-in-Failed-clause-hears
returns-in-Failed-clause-hears g c =
    fails_at_once g.C.Core.rules c.args.self (g.L.Link.receives c.args.link.now) (g.L.Link.receives c.receive.new.self) (g.L.Link.mail c.args.link.now) (g.L.Link.mail c.receive.new.self)
    c.in-Failed.ensures.mail c.in-Failed.ensures.receives
