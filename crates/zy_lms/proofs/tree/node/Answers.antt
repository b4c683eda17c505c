use Rattle.std.proofs.Common.{◌≤◌, ◌<◌, ◌^◌, ◌∙◌, refl}
use Rattle.zy_lms.specs.Height.{levels_of}
use Rattle.zy_lms.proofs.NodesLemmas.{leaf-tree_node, inner-tree_node}
use Rattle.zy_lms.proofs.tree.node.Goals as goal

pub returns-then-r-leaf_count : goal.returns-then-r-leaf_count
returns-then-r-leaf_count c n d sum above below =
    let leaf : 2 ^ levels_of c.args.height ≤ c.args.r = rw c.leaf_count-leaf_count.ensures at c.if-r-leaf_count.true in
    leaf-tree_node c.args.ots c.args.id.now c.args.seed.now (levels_of c.args.height) n d c.args.r _ sum below leaf
    (c.leaf_node.ensures ∙ rw (c.ots_public.ensures, c.leaf_count-leaf_count.ensures) refl)

pub returns-else-r-leaf_count : goal.returns-else-r-leaf_count
returns-else-r-leaf_count c n d sum above below =
    let inner : c.args.r < 2 ^ levels_of c.args.height = rw c.leaf_count-leaf_count.ensures at c.if-r-leaf_count.false in
    inner-tree_node c.args.ots c.args.id.now c.args.seed.now (levels_of c.args.height) n d c.args.r _ c.args.nodes.now _ _ sum above below
    c.requires.low inner c.requires.below c.inner_node.ensures
