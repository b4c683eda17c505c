use Rattle.std.proofs.Common.{◌+◌, ◌≤◌, length}
use Rattle.zy_world.specs.Flowing.{ComesTo}
use Rattle.zy_world.specs.Shows.{Shows}
use Rattle.zy_world_law.specs.Runs.{flow}
use Rattle.zy_world_law.specs.World.{World}
use Rattle.zy_world.proofs.world.World.flows.Given as goal

-- some deliveries were made, and these are left
abbrev pub invariant-loop-left : goal.invariant-loop-left
invariant-loop-left g l = record {
  count : length l.notes + l.left ≤ length l.initial.notes + l.events;
  far : (whole : World g.row.M-State.Denot) → Shows whole l.fn.self
      → ComesTo (flow g.M.Machine.rules l.events) whole (flow g.M.Machine.rules l.left) l.initial.notes l.notes (λ v. Shows v l.world);
}

abbrev pub decreases-loop-left : goal.decreases-loop-left
decreases-loop-left g l = l.left
