use Rattle.std.proofs.Common.{ℕ, true, refl, sym, subst}
use Rattle.std.proofs.lemmas.Result.{err_from_is_err_and}
use Rattle.zy_edge.specs.Faults.{IsCounted}
use Rattle.zy_node.specs.Keeping.{KeptState}
use Rattle.zy_table.specs.State.{State}
use Rattle.zy_node.specs.Replicas.{replica_rules}
use Rattle.zy_node.specs.Serving.{IsKeptTurn}
use Rattle.zy_node.specs.Told.{Outside}
use Rattle.zy_node.proofs.ServeLemmas.{all_given, half_given, link_failed, not_taken}
use Rattle.zy_node.proofs.kept.KeptNode.turn.Goals as goal

pub returns-in_err-take-clause-kept : goal.returns-in_err-take-clause-kept
returns-in_err-take-clause-kept g c =
    let p = err_from_is_err_and c.from_residual.result c.from_residual.ensures.1 in
    rw (p.1, p.2) (not_taken g.D.Disk.contents g.D.Disk.may_leave g.D.Disk.moment g.D.Disk.left_since (replica_rules g.M.Machine.rules) c.args.self c.in_err-take.field-0.0 _ _ c.args.disk.now c.take.new.disk c.in_err-take.ensures.taken)

pub returns-in-Ok-clause-kept : goal.returns-in-Ok-clause-kept
returns-in-Ok-clause-kept g c =
    let from : Outside = record { mail = g.L.Link.mail c.args.link.now; receives = g.L.Link.receives c.args.link.now; moments = g.T.Clock.moments c.args.clock.now } in
    let between : Outside = record { mail = g.L.Link.mail c.take.new.link; receives = g.L.Link.receives c.take.new.link; moments = g.T.Clock.moments c.take.new.clock } in
    let to : Outside = record { mail = g.L.Link.mail c.give.new.link; receives = g.L.Link.receives c.give.new.link; moments = g.T.Clock.moments c.take.new.clock } in
    subst (λ (n : KeptState _). IsKeptTurn g.D.Disk.contents g.D.Disk.may_leave g.D.Disk.moment g.D.Disk.left_since (replica_rules g.M.Machine.rules) c.args.self n from to c.args.disk.now c.take.new.disk) (sym c.in-Ok.ensures.given.0)
    (all_given g.D.Disk.contents g.D.Disk.may_leave g.D.Disk.moment g.D.Disk.left_since (replica_rules g.M.Machine.rules) c.args.self c.in_ok-take.field-0 from between to c.args.disk.now c.take.new.disk c.in_ok-take.ensures.taken c.in-Ok.ensures.given.1 c.in-Ok.ensures.receives refl)

pub returns-clause-kept : goal.returns-clause-kept
returns-clause-kept g c =
    let from : Outside = record { mail = g.L.Link.mail c.args.link.now; receives = g.L.Link.receives c.args.link.now; moments = g.T.Clock.moments c.args.clock.now } in
    let between : Outside = record { mail = g.L.Link.mail c.take.new.link; receives = g.L.Link.receives c.take.new.link; moments = g.T.Clock.moments c.take.new.clock } in
    let to : Outside = record { mail = g.L.Link.mail c.give.new.link; receives = g.L.Link.receives c.give.new.link; moments = g.T.Clock.moments c.take.new.clock } in
    half_given g.D.Disk.contents g.D.Disk.may_leave g.D.Disk.moment g.D.Disk.left_since (replica_rules g.M.Machine.rules) c.args.self c.in_ok-take.field-0 from between to c.args.disk.now c.take.new.disk c.in-Err-Link.field-0 c.in_ok-take.ensures.taken c.in-Err-Link.ensures.given c.in-Err-Link.ensures.receives refl

pub returns-clause-link_count : goal.returns-clause-link_count
returns-clause-link_count g c =
    subst (λ (n : ℕ). IsCounted true n (g.L.Link.faults c.give.new.link)) c.in_ok-take.ensures.link_count (link_failed (KeptState (State g.row.M-State.Denot)) (KeptState (State g.row.M-State.Denot)) c.in-Err-Link.field-0 (g.L.Link.faults c.take.new.link) (g.L.Link.faults c.give.new.link) c.in-Err-Link.ensures.count)
