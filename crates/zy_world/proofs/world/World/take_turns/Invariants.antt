use Rattle.std.proofs.Common.{◌≡◌, ℕ, ◌+◌, ◌≤◌, length}
use Rattle.std.specs.Vec.Iter.{into_iter_items}
use Rattle.zy_world.specs.Ahead.{ShowsTurns}
use Rattle.zy_world.specs.Flowing.{ComesTo}
use Rattle.zy_world_law.specs.Runs.{flow}
use Rattle.zy_world_law.specs.World.{World}
use Rattle.zy_world.proofs.world.World.take_turns.Given as goal

-- some frames were brought, and the others are left
abbrev pub invariant-loop-turn : goal.invariant-loop-turn
invariant-loop-turn g l = record {
  long : length l.turn-iterator.rest.items ≡ l.turn-iterator.rest.len;
  count : length l.notes + length l.turn-iterator.rest.items ≤ length l.initial.notes + length l.fn.turns.items;
  far : (whole : World g.row.M-State.Denot) (left : ℕ) → ShowsTurns g.M.Machine.rules whole l.fn.turns.items l.fn.made.items l.fn.self
      → ComesTo (flow g.M.Machine.rules (length l.fn.turns.items + left)) whole (flow g.M.Machine.rules (length l.turn-iterator.rest.items + left)) l.initial.notes l.notes
      (λ v. ShowsTurns g.M.Machine.rules v l.turn-iterator.rest.items (into_iter_items l.out) l.world);
}
