use Rattle.std.proofs.Common.{Some, sym, subst}
use Rattle.std.proofs.lemmas.Result.{err_from_is_err_and}
use Rattle.zy_journal.specs.Journal.{IsAtEnd}
use Rattle.zy_node.specs.Events.{events_heard, records}
use Rattle.zy_node.proofs.EventLemmas.{heard_fits}
use Rattle.zy_node.proofs.StoreLemmas.{nothing_stored}
use Rattle.zy_node.proofs.TakeLemmas.{part_keeps, refused_frame_keeps, whole_keeps}
use Rattle.zy_node.proofs.keeping.Keeping.hear.Goals as goal

pub returns-in_err-frame-clause-keeps : goal.returns-in_err-frame-clause-keeps
returns-in_err-frame-clause-keeps g c =
    let p = err_from_is_err_and c.from_residual.result c.from_residual.ensures.1 in
    rw (p.1, p.2) (nothing_stored g.D.Disk.contents g.D.Disk.may_leave g.D.Disk.moment g.D.Disk.left_since c.args.disk.now c.args.self.gate (records g.C.Core.rules (events_heard (Some c.args.datagram.now) c.args.self.host) c.args.self.host.core) (g.met.D.Disk.only_now c.args.disk.now) c.requires.end)

pub returns-in-Whole-clause-keeps : goal.returns-in-Whole-clause-keeps
returns-in-Whole-clause-keeps g c =
    whole_keeps g.D.Disk.contents g.D.Disk.may_leave g.D.Disk.moment g.D.Disk.left_since g.C.Core.rules c.args.datagram.now c.args.self c.gather.new.self c.in_ok-frame.field-0 c.in-Whole.frame c.store.result c.args.disk.now c.store.new.disk
    c.in_ok-frame.ensures.answer c.in_ok-frame.ensures.after c.in-Whole.is c.store.ensures.keeps

pub returns-in-Part-clause-keeps : goal.returns-in-Part-clause-keeps
returns-in-Part-clause-keeps g c =
    part_keeps g.D.Disk.contents g.D.Disk.may_leave g.D.Disk.moment g.D.Disk.left_since g.C.Core.rules c.args.datagram.now c.args.self c.gather.new.self c.in_ok-frame.field-0 c.args.disk.now (g.met.D.Disk.only_now c.args.disk.now) c.requires.end
    c.in_ok-frame.ensures.answer c.in_ok-frame.ensures.after c.in-Part.is

pub returns-in-Refused-clause-keeps : goal.returns-in-Refused-clause-keeps
returns-in-Refused-clause-keeps g c =
    refused_frame_keeps g.D.Disk.contents g.D.Disk.may_leave g.D.Disk.moment g.D.Disk.left_since g.C.Core.rules c.args.datagram.now c.args.self c.gather.new.self c.in_ok-frame.field-0 c.in-Refused.field-0 c.args.disk.now (g.met.D.Disk.only_now c.args.disk.now) c.requires.end
    c.in_ok-frame.ensures.answer c.in_ok-frame.ensures.after c.in-Refused.is

pub store-requires-clause-fits : goal.store-requires-clause-fits
store-requires-clause-fits g c = heard_fits g.C.Core.rules c.in-Whole.frame c.gather.new.self.host.core c.requires.suits

pub store-requires-clause-end : goal.store-requires-clause-end
store-requires-clause-end g c = subst (λ u. IsAtEnd (g.D.Disk.contents c.args.disk.now) (g.D.Disk.may_leave c.args.disk.now) u.gate) (sym c.in_ok-frame.ensures.after) c.requires.end
