use Rattle.std.proofs.Common.{◌≡◌, ◌++◌}
use Rattle.std.specs.List.{flat_map, range_with_len}
use Rattle.zy_world.specs.Shows.{Shows}
use Rattle.zy_world_law.specs.World.{World}
use Rattle.zy_top.specs.Telling.{standing_of}
use Rattle.zy_top.proofs.tale.put_standings.Given as goal

-- the lines of the first replicas
abbrev pub invariant-loop-id : goal.invariant-loop-id
invariant-loop-id g l =
    (whole : World g.row.M-State.Denot) → Shows whole l.world
    → l.text.items ≡ l.initial.text.items ++ flat_map (standing_of g.M.Machine.rules whole) (range_with_len 0 l.id)
