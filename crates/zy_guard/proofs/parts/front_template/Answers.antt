use Rattle.std.proofs.Common.{◌∙◌, sym}
use Rattle.zy_guard.proofs.LineLaws.{front_given, none_before, none_yet, front_fails}
use Rattle.zy_guard.proofs.parts.front_template.Goals as goal

pub loop-place-init : goal.loop-place-init
loop-place-init c = none_before c.args.line.now

pub loop-place-preserved : goal.loop-place-preserved
loop-place-preserved c = none_yet c.args.line.now c.loop-place.place c.loop-place.invariant (sym c.in_ok-template.ensures.read ∙ c.in-None.is)

pub returns-in-Some-clause-read : goal.returns-in-Some-clause-read
returns-in-Some-clause-read c = front_given c.args.line.now c.loop-place.place c.in-Some.template (sym c.in_ok-template.ensures.read ∙ c.in-Some.is)

pub returns-clause-read : goal.returns-clause-read
returns-clause-read c = front_fails c.args.line.now c.loop-place.place c.loop-place-test.false c.loop-place.auto.place-end c.loop-place.invariant c.requires
