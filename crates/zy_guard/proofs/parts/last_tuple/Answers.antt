use Rattle.std.proofs.lemmas.Result.{err_from_is_err_and}
use Rattle.zy_guard.proofs.LineLaws.{tuple_only, tuple_is, tuple_fault, no_tuple}
use Rattle.zy_guard.proofs.parts.last_tuple.Goals as goal

pub returns-in_err-behind_space-clause-read : goal.returns-in_err-behind_space-clause-read
returns-in_err-behind_space-clause-read c =
    let p = err_from_is_err_and c.from_residual.result c.from_residual.ensures.1 in
    rw (p.1, p.2) (no_tuple c.args.line.now c.in_err-behind_space.field-0.0 c.in_err-behind_space.ensures)

pub tuple_in-requires : goal.tuple_in-requires
tuple_in-requires c = tuple_only c.args.line.now c.in_ok-behind_space.field-0.now c.in_ok-behind_space.ensures c.in-Ok.op c.in-Ok.ensures.read

pub returns-in-Ok-clause-read : goal.returns-in-Ok-clause-read
returns-in-Ok-clause-read c =
    tuple_is c.args.line.now c.in_ok-behind_space.field-0.now c.in_ok-behind_space.ensures c.in-Ok.op c.tuple_in.result c.in-Ok.ensures.read c.tuple_in.ensures

pub returns-in-Err-clause-read : goal.returns-in-Err-clause-read
returns-in-Err-clause-read c = tuple_fault c.args.line.now c.in_ok-behind_space.field-0.now c.in_ok-behind_space.ensures c.in-Err.fault c.in-Err.ensures.read
