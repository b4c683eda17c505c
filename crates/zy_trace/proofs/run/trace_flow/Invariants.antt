use Rattle.std.proofs.Common.{◌+◌, ◌-◌, ◌≤◌}
use Rattle.zy_world.specs.Shows.{Shows}
use Rattle.zy_world_law.specs.World.{World}
use Rattle.zy_trace.proofs.Steps.{IsLeft}
use Rattle.zy_trace.proofs.run.trace_flow.Given as goal
use Rattle.zy_trace.specs.Telling.{trace_flow}
use Rattle.zy_trace.specs.Tracing.{told_of}

-- so many deliveries were made, and the flow of the others is left
abbrev pub invariant-loop : goal.invariant-loop
invariant-loop g l = record {
  count : l.trace.events ≤ l.initial.trace.events + l.counter;
  left : (whole : World g.row.M-State.Denot) → Shows whole l.fn.world
      → IsLeft (trace_flow g.M.Machine.rules l.events whole (told_of l.initial.trace)) (trace_flow g.M.Machine.rules (l.events - l.counter)) (told_of l.trace) l.world;
}
