use Rattle.std.proofs.Common.{◌≡◌, ◌++◌, length, map, List, Bool}
use Rattle.zy_world.specs.Ahead.{AreApart, IsJob, turn_of}
use Rattle.zy_world_law.specs.World.{is_told}
use Rattle.zy_world.proofs.OutOfSeats.{IsTaking}
use Rattle.zy_world.proofs.seats.Seats.take_out.Given as goal

-- some are taken out, and the others are left
abbrev pub invariant-loop-due : goal.invariant-loop-due
invariant-loop-due g l = record {
  long : length l.due-iterator.rest.items ≡ l.due-iterator.rest.len;
  taking : (left : List Bool) → AreApart left l.fn.dues.items (map is_told l.initial.self.replicas)
      → IsTaking IsJob l.fn.dues.items l.initial.self.replicas left l.due-iterator.rest.items l.self.replicas l.jobs.items;
  turns : l.turns.items ++ map turn_of l.due-iterator.rest.items ≡ map turn_of l.fn.dues.items;
  clients : l.self.clients ≡ l.initial.self.clients;
}
