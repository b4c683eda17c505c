use Rattle.std.proofs.Common.{◌≡◌, ◌*◌, ◌^◌, ◌<◌, length, All}
use Rattle.zy_schedule.specs.Making.{drawn, made_lines}
use Rattle.zy_schedule.specs.Texts.{IsSaid}
use Rattle.zy_schedule.proofs.making.make.Given as goal

-- the asks before this one are made, and so much is drawn
abbrev pub invariant-loop-n : goal.invariant-loop-n
invariant-loop-n l = record {
  made : l.lines.items ≡ made_lines l.number l.n;
  said : All IsSaid l.lines.items;
  two_each : length l.lines.items ≡ 2 * l.n;
  draw : l.draw ≡ drawn l.number l.n;
  below : l.draw < 2 ^ 31;
}
