use Rattle.std.proofs.Common.{◌≡◌, ◌+◌, ◌++◌, drop}
use Rattle.zy_world.specs.Shows.{Shows}
use Rattle.zy_world_law.specs.World.{World}
use Rattle.zy_trace.proofs.telling.put_frames.Given as goal
use Rattle.zy_trace.specs.Telling.{frames_lines}

-- with the lines of the frames that are left it is all
abbrev pub invariant-loop-before : goal.invariant-loop-before
invariant-loop-before g l =
    (whole : World g.row.M-State.Denot) → Shows whole l.world
    → l.out.items ++ frames_lines l.number l.by l.next (l.before + 1) (drop l.before whole.bag)
    ≡ l.initial.out.items ++ frames_lines l.number l.by l.unspent (l.sent + 1) (drop l.sent whole.bag)
