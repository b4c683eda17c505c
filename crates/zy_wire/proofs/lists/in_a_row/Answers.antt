use Rattle.std.proofs.Common.{arith}
use Rattle.std.proofs.lemmas.Result.{err_from_is_err_and}
use Rattle.std.proofs.lemmas.Grind.{common_steps}
use Rattle.zy_wire.specs.Spelling.{repeated_at}
use Rattle.zy_wire.proofs.Loop.{goes_on, item_fails}
use Rattle.zy_wire.proofs.lists.in_a_row.Goals as goal

pub loop-preserved : goal.loop-preserved
loop-preserved g c =
    let S = g.T.Spelled.spelling in
    record {
      read = rw c.in_ok-push.ensures.items (goes_on S c.loop.items.items c.args.count c.loop.counter c.loop.cut c.in_ok-get.field-0 c.get.new.cut (repeated_at S c.args.count c.args.cut.now) c.loop-test.true c.in_ok-get.ensures.read c.loop.invariant.read);
      count = grind (arith, common_steps);
      in_range = grind (arith, common_steps);
    }

pub returns-in_err-get-clause-read : goal.returns-in_err-get-clause-read
returns-in_err-get-clause-read g c =
    let p = err_from_is_err_and c.from_residual-in_err-get.result c.from_residual-in_err-get.ensures.1 in
    rw (p.1, p.2) (item_fails g.T.Spelled.spelling c.in_err-get.field-0.0 c.loop.items.items c.args.count c.loop.counter c.loop.cut c.args.cut.now c.loop-test.true c.in_err-get.ensures.read.0 c.loop.invariant.read)
