use Rattle.std.proofs.Common.{◌≡◌, length, refl, ap, arith}
use Rattle.std.proofs.lemmas.List.{length-map}
use Rattle.std.proofs.lemmas.Result.{err_from_is_err_and}
use Rattle.zy_world.specs.Ahead.{turn_of}
use Rattle.zy_world.specs.Shows.{Shows}
use Rattle.zy_world.proofs.ComingBack.{all_ahead, as_many_come, as_many_cut}
use Rattle.zy_world.proofs.world.World.bring_all.Goals as goal

pub returns-clause-comes : goal.returns-clause-comes
returns-clause-comes g c w left s batch =
    let R = g.M.Machine.rules in
    let are = c.in_ok-jobs.ensures.turns in
    as_many_come R c.args.dues.items _ left w _ _ _ (λ out v. Shows v out) c.take_turns.result are
    (c.take_turns.ensures.comes w left
    (record {
      dues = c.args.dues.items;
      are = are;
      ahead = all_ahead R w c.args.self _ c.args.dues.items c.args.dues.items c.take_out.new.self _ _ s batch c.self.view_is refl c.take_out.ensures.clients (c.in_ok-jobs.ensures.out batch.left) c.in_ok-made.ensures;
    }))

pub returns-clause-cut : goal.returns-clause-cut
returns-clause-cut g c w left s batch =
    let R = g.M.Machine.rules in
    let are = c.in_ok-jobs.ensures.turns in
    as_many_cut R c.args.dues.items _ left w _ _ c.take_turns.result are
    (c.take_turns.ensures.cut w left
    (record {
      dues = c.args.dues.items;
      are = are;
      ahead = all_ahead R w c.args.self _ c.args.dues.items c.args.dues.items c.take_out.new.self _ _ s batch c.self.view_is refl c.take_out.ensures.clients (c.in_ok-jobs.ensures.out batch.left) c.in_ok-made.ensures;
    }))

pub returns-clause-most : goal.returns-clause-most
returns-clause-most g c = omega (arith, c.take_turns.ensures.most, ap length c.in_ok-jobs.ensures.turns, length-map c.args.dues.items turn_of)

pub returns-in_err-jobs-clause-cut : goal.returns-in_err-jobs-clause-cut
returns-in_err-jobs-clause-cut g c w left s batch =
    let p = err_from_is_err_and c.from_residual.result c.from_residual.ensures.1 in
    rw (p.1, p.2) tt

pub returns-in_err-made-clause-cut : goal.returns-in_err-made-clause-cut
returns-in_err-made-clause-cut g c w left s batch =
    let p = err_from_is_err_and c.from_residual-in_err-made.result c.from_residual-in_err-made.ensures.1 in
    rw (p.1, p.2) tt
