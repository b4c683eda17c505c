use Rattle.zy_lms.specs.Height.{levels_of}
use Rattle.zy_lms.specs.Nodes.{HoldsNodes}
use Rattle.zy_lms.proofs.tree.make_nodes.Given as goal

abbrev pub invariant-nodes : goal.invariant-nodes
invariant-nodes l = HoldsNodes l.ots l.id l.seed (levels_of l.height) l.nodes.items l.r
