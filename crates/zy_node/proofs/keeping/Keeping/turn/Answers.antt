use Rattle.std.proofs.Common.{take, Some, None, Err, refl, arith}
use Rattle.std.proofs.lemmas.Result.{err_from_is_err_and}
use Rattle.zy_node.proofs.HearLemmas.{datagram_moves, quiet_moves}
use Rattle.zy_node.proofs.TakeLemmas.{heard_then_due, hearing_fails, quiet_then_due, stays_silent, taken_to}
use Rattle.zy_node.proofs.keeping.Keeping.turn.Goals as goal

pub returns-in_err-hear-in-Datagram-clause-taken : goal.returns-in_err-hear-in-Datagram-clause-taken
returns-in_err-hear-in-Datagram-clause-taken g c =
    let p = err_from_is_err_and c.from_residual.result c.from_residual.ensures.1 in
    let keeps = hearing_fails g.D.Disk.contents g.D.Disk.may_leave g.D.Disk.moment g.D.Disk.left_since g.C.Core.rules (record { heard = Some (take c.in-Datagram.len c.receive.new.buf); now = c.now_ms-now.result }) c.args.self c.in_err-hear-in-Datagram.field-0.0 c.args.disk.now c.hear.new.disk c.requires.suits c.requires.silent c.in_err-hear-in-Datagram.ensures.keeps in
    rw (p.1, p.2) (taken_to g.D.Disk.contents g.D.Disk.may_leave g.D.Disk.moment g.D.Disk.left_since g.C.Core.rules (record { heard = Some (take c.in-Datagram.len c.receive.new.buf); now = c.now_ms-now.result }) c.args.self (Err c.in_err-hear-in-Datagram.field-0.0) (record { mail = g.L.Link.mail c.args.link.now; receives = g.L.Link.receives c.args.link.now; moments = g.T.Clock.moments c.args.clock.now }) (record { mail = g.L.Link.mail c.receive.new.self; receives = g.L.Link.receives c.receive.new.self; moments = g.T.Clock.moments c.now_ms-now.new.self }) c.args.disk.now c.hear.new.disk c.requires.free (record { mail = datagram_moves c.in-Datagram.len c.receive.new.buf (take c.in-Datagram.len c.receive.new.buf) (g.L.Link.mail c.args.link.now) (g.L.Link.mail c.receive.new.self) (omega (arith, c.receive.auto.buf)) refl c.in-Datagram.ensures.mail; receives = c.in-Datagram.ensures.receives; moments = c.now_ms-now.ensures.moments }) keeps)

pub returns-in_ok-hear-in-Datagram-clause-taken : goal.returns-in_ok-hear-in-Datagram-clause-taken
returns-in_ok-hear-in-Datagram-clause-taken g c =
    let keeps = heard_then_due g.D.Disk.contents g.D.Disk.may_leave g.D.Disk.moment g.D.Disk.left_since g.C.Core.rules (record { heard = Some (take c.in-Datagram.len c.receive.new.buf); now = c.now_ms-now.result }) c.args.self c.in_ok-hear-in-Datagram.field-0 c.read.result c.fire_due.result c.args.disk.now c.hear.new.disk c.fire_due.new.disk c.requires.suits c.requires.silent c.in_ok-hear-in-Datagram.ensures.keeps c.read.ensures c.fire_due.ensures.keeps in
    taken_to g.D.Disk.contents g.D.Disk.may_leave g.D.Disk.moment g.D.Disk.left_since g.C.Core.rules (record { heard = Some (take c.in-Datagram.len c.receive.new.buf); now = c.now_ms-now.result }) c.args.self c.fire_due.result (record { mail = g.L.Link.mail c.args.link.now; receives = g.L.Link.receives c.args.link.now; moments = g.T.Clock.moments c.args.clock.now }) (record { mail = g.L.Link.mail c.receive.new.self; receives = g.L.Link.receives c.receive.new.self; moments = g.T.Clock.moments c.now_ms-now.new.self }) c.args.disk.now c.fire_due.new.disk c.requires.free (record { mail = datagram_moves c.in-Datagram.len c.receive.new.buf (take c.in-Datagram.len c.receive.new.buf) (g.L.Link.mail c.args.link.now) (g.L.Link.mail c.receive.new.self) (omega (arith, c.receive.auto.buf)) refl c.in-Datagram.ensures.mail; receives = c.in-Datagram.ensures.receives; moments = c.now_ms-now.ensures.moments }) keeps

pub returns-in_ok-hear-in-Datagram-clause-silent : goal.returns-in_ok-hear-in-Datagram-clause-silent
returns-in_ok-hear-in-Datagram-clause-silent g c =
    let keeps = heard_then_due g.D.Disk.contents g.D.Disk.may_leave g.D.Disk.moment g.D.Disk.left_since g.C.Core.rules (record { heard = Some (take c.in-Datagram.len c.receive.new.buf); now = c.now_ms-now.result }) c.args.self c.in_ok-hear-in-Datagram.field-0 c.read.result c.fire_due.result c.args.disk.now c.hear.new.disk c.fire_due.new.disk c.requires.suits c.requires.silent c.in_ok-hear-in-Datagram.ensures.keeps c.read.ensures c.fire_due.ensures.keeps in
    stays_silent g.D.Disk.contents g.D.Disk.may_leave g.D.Disk.moment g.D.Disk.left_since g.C.Core.rules (record { heard = Some (take c.in-Datagram.len c.receive.new.buf); now = c.now_ms-now.result }) c.args.self c.fire_due.result c.args.disk.now c.fire_due.new.disk c.requires.suits c.requires.silent keeps

pub returns-in-Quiet-clause-taken : goal.returns-in-Quiet-clause-taken
returns-in-Quiet-clause-taken g c =
    let keeps = quiet_then_due g.D.Disk.contents g.D.Disk.may_leave g.D.Disk.moment g.D.Disk.left_since g.C.Core.rules c.now_ms-now-in-Quiet.result c.args.self c.read-in-Quiet.result c.fire_due-in-Quiet.result c.args.disk.now c.fire_due-in-Quiet.new.disk c.requires.suits c.requires.silent (g.met.D.Disk.only_now c.args.disk.now) c.requires.end c.read-in-Quiet.ensures c.fire_due-in-Quiet.ensures.keeps in
    taken_to g.D.Disk.contents g.D.Disk.may_leave g.D.Disk.moment g.D.Disk.left_since g.C.Core.rules (record { heard = None; now = c.now_ms-now-in-Quiet.result }) c.args.self c.fire_due-in-Quiet.result (record { mail = g.L.Link.mail c.args.link.now; receives = g.L.Link.receives c.args.link.now; moments = g.T.Clock.moments c.args.clock.now }) (record { mail = g.L.Link.mail c.receive.new.self; receives = g.L.Link.receives c.receive.new.self; moments = g.T.Clock.moments c.now_ms-now-in-Quiet.new.self }) c.args.disk.now c.fire_due-in-Quiet.new.disk c.requires.free (record { mail = quiet_moves c.receive.new.buf (g.L.Link.mail c.args.link.now) (g.L.Link.mail c.receive.new.self) c.in-Quiet.ensures.mail; receives = c.in-Quiet.ensures.receives; moments = c.now_ms-now-in-Quiet.ensures.moments }) keeps

pub returns-in-Quiet-clause-silent : goal.returns-in-Quiet-clause-silent
returns-in-Quiet-clause-silent g c =
    let keeps = quiet_then_due g.D.Disk.contents g.D.Disk.may_leave g.D.Disk.moment g.D.Disk.left_since g.C.Core.rules c.now_ms-now-in-Quiet.result c.args.self c.read-in-Quiet.result c.fire_due-in-Quiet.result c.args.disk.now c.fire_due-in-Quiet.new.disk c.requires.suits c.requires.silent (g.met.D.Disk.only_now c.args.disk.now) c.requires.end c.read-in-Quiet.ensures c.fire_due-in-Quiet.ensures.keeps in
    stays_silent g.D.Disk.contents g.D.Disk.may_leave g.D.Disk.moment g.D.Disk.left_since g.C.Core.rules (record { heard = None; now = c.now_ms-now-in-Quiet.result }) c.args.self c.fire_due-in-Quiet.result c.args.disk.now c.fire_due-in-Quiet.new.disk c.requires.suits c.requires.silent keeps
