use Rattle.zy_guard.proofs.LineLaws.{NoneEnds}
use Rattle.zy_guard.proofs.parts.front_template.Given as goal

abbrev pub invariant-loop-place : goal.invariant-loop-place
invariant-loop-place l = NoneEnds l.line l.place
