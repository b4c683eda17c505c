use Rattle.std.proofs.Common.{◌≡◌, ◌-◌, ◌/◌, ◌^◌, ◌++◌, List, ℕ}
use Rattle.std.specs.List.{concat}
use Rattle.zy_ots.specs.declared.ots_type.OtsType.{OtsType}
use Rattle.zy_lms.specs.Height.{levels_of}
use Rattle.zy_lms.specs.Tree.{path_from}
use Rattle.zy_lms.specs.Nodes.{HoldsNodes}
use Rattle.zy_lms.proofs.key.path_onto.Given as goal

abbrev pub invariant-levels : goal.invariant-levels
invariant-levels l =
    let h = levels_of l.fn.height in
    (t : OtsType) (id seed : List ℕ) → HoldsNodes t id seed h l.nodes 1
    → l.out.items ++ concat (path_from t id seed h l.level (h - l.level) (l.leaf / 2 ^ l.level))
    ≡ l.fn.out.items ++ concat (path_from t id seed h 0 h l.leaf)
