use Rattle.std.proofs.Common.{◌≡◌, ◌-◌, ◌*◌, ◌/◌, ◌^◌, drop}
use Rattle.zy_lms.specs.Height.{levels_of}
use Rattle.zy_lms.specs.Tree.{climb, nodes_in}
use Rattle.zy_lms.proofs.tree.climb.Given as goal

abbrev pub invariant-levels : goal.invariant-levels
invariant-levels l =
    let h = levels_of l.fn.height in
    climb l.id l.leaf l.fn.value.0 (nodes_in h l.path)
    ≡ climb l.id (l.leaf / 2 ^ l.level) l.value.0 (nodes_in (h - l.level) (drop (32 * l.level) l.path))
