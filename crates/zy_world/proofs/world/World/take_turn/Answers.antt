use Rattle.std.proofs.lemmas.Result.{err_from_is_err_and}
use Rattle.std.specs.Vec.Iter.{into_iter_items}
use Rattle.zy_world.proofs.ComingBack.{ahead_of, first_turn, turn_cut, turn_noted}
use Rattle.zy_world.proofs.world.World.take_turn.Goals as goal

pub returns-clause-comes : goal.returns-clause-comes
returns-clause-comes g c w more left is =
    let R = g.M.Machine.rules in
    let old = into_iter_items c.args.out.now in
    let f = first_turn R w c.args.turn more old c.args.self is in
    turn_noted R w c.args.turn more old c.args.self is left c.args.notes.now (into_iter_items c.turn.new.out) _ _ _
    (c.in_ok-world.ensures.goes w f.due f.rest f.first (ahead_of R w c.args.turn more old c.args.self is)) c.in_ok-push.ensures.ok

pub returns-in_err-world-clause-cut : goal.returns-in_err-world-clause-cut
returns-in_err-world-clause-cut g c w more left is =
    let R = g.M.Machine.rules in
    let old = into_iter_items c.args.out.now in
    let f = first_turn R w c.args.turn more old c.args.self is in
    let ahead = ahead_of R w c.args.turn more old c.args.self is in
    let p = err_from_is_err_and c.from_residual.result c.from_residual.ensures.1 in
    rw (p.1, p.2)
    (turn_cut R w f.due f.rest old c.args.self ahead left c.args.notes.now c.in_err-world.field-0.0 (c.in_err-world.ensures.broken w f.due f.rest f.first ahead))

pub returns-in_err-push-clause-cut : goal.returns-in_err-push-clause-cut
returns-in_err-push-clause-cut g c w more left is =
    let p = err_from_is_err_and c.from_residual-in_err-push.result c.from_residual-in_err-push.ensures.1 in
    rw (p.1, p.2) tt
