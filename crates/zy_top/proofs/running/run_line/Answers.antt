use Rattle.std.proofs.lemmas.Result.{err_from_is_err_and}
use Rattle.zy_world_law.specs.Runs.{run_line}
use Rattle.zy_top.specs.Acts.{act_of, act_part}
use Rattle.zy_top.proofs.RunParts.{line_acts, part_like}
use Rattle.zy_top.proofs.running.run_line.Goals as goal

pub returns-in_err-act-clause-run : goal.returns-in_err-act-clause-run
returns-in_err-act-clause-run g c whole shows =
    let p = err_from_is_err_and c.from_residual.result c.from_residual.ensures.1 in
    rw (p.1, p.2) tt

pub returns-clause-run : goal.returns-clause-run
returns-clause-run g c whole shows =
    let R = g.M.Machine.rules in
    part_like (act_part R (act_of c.args.line)) (run_line R c.args.line) whole _ _ _ (λ rest. line_acts R c.args.line rest whole)
    (rw c.in_ok-act.ensures.act at (c.run_act.ensures.run whole shows))
