use Rattle.std.proofs.lemmas.Result.{err_from_is_err_and}
use Rattle.zy_guard.proofs.LineLaws.{template_only, template_is, template_fault, no_template}
use Rattle.zy_guard.proofs.parts.last_template.Goals as goal

pub returns-in_err-behind_space-clause-read : goal.returns-in_err-behind_space-clause-read
returns-in_err-behind_space-clause-read c =
    let p = err_from_is_err_and c.from_residual.result c.from_residual.ensures.1 in
    rw (p.1, p.2) (no_template c.args.line.now c.in_err-behind_space.field-0.0 c.in_err-behind_space.ensures)

pub template_in-requires : goal.template_in-requires
template_in-requires c = template_only c.args.line.now c.in_ok-behind_space.field-0.now c.in_ok-behind_space.ensures c.in-Ok.op c.in-Ok.ensures.read

pub returns-in-Ok-clause-read : goal.returns-in-Ok-clause-read
returns-in-Ok-clause-read c =
    template_is c.args.line.now c.in_ok-behind_space.field-0.now c.in_ok-behind_space.ensures c.in-Ok.op c.template_in.result c.in-Ok.ensures.read c.template_in.ensures

pub returns-in-Err-clause-read : goal.returns-in-Err-clause-read
returns-in-Err-clause-read c = template_fault c.args.line.now c.in_ok-behind_space.field-0.now c.in_ok-behind_space.ensures c.in-Err.fault c.in-Err.ensures.read
