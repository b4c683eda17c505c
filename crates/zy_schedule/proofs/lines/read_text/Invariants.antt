use Rattle.std.proofs.Common.{◌≡◌, ◌+◌, ◌≤◌, suc, length}
use Rattle.zy_schedule.specs.Lines.{items_from, lines_of, text_of}
use Rattle.zy_schedule.proofs.LineLemmas.{behind}
use Rattle.zy_schedule.proofs.lines.read_text.Given as goal

-- what was said so far, and what the lines that are left say, are what the text says
abbrev pub invariant-lines : goal.invariant-lines
invariant-lines g l = record {
  said : behind l.items.items (items_from g.T.FromLine.said (suc l.number) (lines_of l.rest)) ≡ text_of g.T.FromLine.said l.text;
  count : l.number + length l.rest ≤ length l.text;
}

abbrev pub decreases-lines : goal.decreases-lines
decreases-lines g l = length l.rest
