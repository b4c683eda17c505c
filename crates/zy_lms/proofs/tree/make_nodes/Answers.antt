use Rattle.std.proofs.Common.{arith, ◌≡◌, ◌-◌, ◌+◌, ◌*◌, ◌^◌, length}
use Rattle.zy_lms.specs.Height.{levels_of}
use Rattle.zy_lms.proofs.NodesLemmas.{holds_none, holds_more, holds_all}
use Rattle.zy_lms.proofs.tree.make_nodes.Goals as goal

pub nodes-init : goal.nodes-init
nodes-init c =
    let count = c.leaf_count-node_count.ensures in
    let whole : length c.in_ok-nodes.nodes.items ≡ 2 * 2 ^ levels_of c.args.height =
    omega (arith, c.in_ok-nodes.nodes.ok.0, c.in_ok-nodes.ensures.len, count) in
    holds_none c.args.ots c.args.id.now c.args.seed.now (levels_of c.args.height) _ _ whole (omega (arith, count))

pub node-requires-clause-below : goal.node-requires-clause-below
node-requires-clause-below c =
    let next : c.nodes.r - 1 + 1 ≡ c.nodes.r = omega arith in
    rw (next, c.deref.ensures.value) c.nodes.invariant

pub nodes-preserved : goal.nodes-preserved
nodes-preserved c =
    let next : c.nodes.r - 1 + 1 ≡ c.nodes.r = omega arith in
    let count = c.leaf_count-node_count.ensures in
    holds_more c.args.ots c.args.id.now c.args.seed.now (levels_of c.args.height) c.nodes.nodes.items c.node.result (c.nodes.r - 1)
    (omega (arith, c.nodes.invariant.whole, count)) (rw next c.nodes.invariant) c.node.ensures

pub returns : goal.returns
returns c =
    holds_all c.args.ots c.args.id.now c.args.seed.now (levels_of c.args.height) _ c.nodes.r c.nodes-test.false c.nodes.invariant
