use Rattle.zy_guard.proofs.LineLaws.{last_is_whole, other_fault}
use Rattle.zy_guard.proofs.parts.template_behind_space.Goals as goal

pub returns-in-Ok-clause-read : goal.returns-in-Ok-clause-read
returns-in-Ok-clause-read c = last_is_whole c.args.line.now c.in-Ok.template c.in-Ok.ensures.read

pub returns-else-rule-eq6-clause-read : goal.returns-else-rule-eq6-clause-read
returns-else-rule-eq6-clause-read c = other_fault c.args.line.now c.in-Err-Rule.rule (rw c.in-Err-Rule.field-0-is at c.in-Err-Rule.ensures.read) c.if-rule-eq6.false
