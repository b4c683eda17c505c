use Rattle.std.proofs.Common.{arith, ◌≡◌, ◌<◌, ◌-◌, ◌+◌, ◌*◌, ◌∙◌, refl, sym}
use Rattle.zy_lms.specs.Height.{levels_of}
use Rattle.zy_lms.proofs.TreeLemmas.{climb_start, climb_level, climb_done}
use Rattle.zy_lms.proofs.tree.climb.Goals as goal

pub levels-init : goal.levels-init
levels-init c = climb_start _ _ _ _ _

pub levels-preserved : goal.levels-preserved
levels-preserved c =
    let under : c.levels.level < levels_of c.args.height = rw c.levels-level-end.ensures at c.levels-test.true in
    let whole : 32 * c.levels.level + 32 - 32 * c.levels.level ≡ 32 = omega arith in
    c.levels.invariant
    ∙ climb_level c.args.id.now c.levels.value.0 c.args.path.now c.levels.level (levels_of c.args.height) c.args.leaf under c.requires.node
    ∙ rw (c.parent-value.ensures, whole) refl

pub returns : goal.returns
returns c =
    let done : levels_of c.args.height ≡ c.levels.level = omega (arith, c.levels-level-end.ensures) in
    sym (c.levels.invariant ∙ climb_done _ _ _ c.levels.level (levels_of c.args.height) c.args.leaf done)
