use Rattle.std.proofs.Common.{◌≡◌, ◌+◌, ◌*◌, ◌≤◌, length, All}
use Rattle.zy_schedule.specs.Texts.{IsSaid}
use Rattle.zy_world.specs.Shows.{Shows}
use Rattle.zy_world_law.specs.World.{World}
use Rattle.zy_trace.proofs.Steps.{IsLeft}
use Rattle.zy_trace.proofs.run.trace_lines.Given as goal
use Rattle.zy_trace.specs.Telling.{trace}
use Rattle.zy_trace.specs.Tracing.{told_of}

-- some lines were traced, and the others are left
abbrev pub invariant-loop-line : goal.invariant-loop-line
invariant-loop-line g l = record {
  long : length l.line-iterator.rest.items ≡ l.line-iterator.rest.len;
  said : All IsSaid l.line-iterator.rest.items;
  count : l.trace.events + 100000 * length l.line-iterator.rest.items ≤ l.initial.trace.events + 100000 * length l.fn.lines.items;
  left : (whole : World g.row.M-State.Denot) → Shows whole l.fn.world
      → IsLeft (trace g.M.Machine.rules l.fn.lines.items whole (told_of l.initial.trace)) (trace g.M.Machine.rules l.line-iterator.rest.items) (told_of l.trace) l.world;
}
