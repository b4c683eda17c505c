use Rattle.std.proofs.Common.{sym, subst}
use Rattle.zy_schedule.specs.declared.line.Line.{Line}
use Rattle.zy_schedule.specs.Texts.{IsSaid}
use Rattle.zy_cases.proofs.schedule.written.Goals as goal

pub put_behind-requires : goal.put_behind-requires
put_behind-requires c = subst (λ (line : Line). IsSaid line) (sym c.line-item.is) (c.requires c.loop-line.line-index c.line-item.result c.loop-line-test.true)
