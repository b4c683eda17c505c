-- The kept nodes of a tree.
use Rattle.std.specs.Prelude.{◌≡◌, ℕ, ◌+◌, ◌*◌, ◌^◌, ◌<◌, ◌≤◌, List, length, slice_index_or}
use Rattle.zy_base.specs.declared.ids.Digest.{Digest}
use Rattle.zy_ots.specs.declared.ots_type.OtsType.{OtsType}
use Rattle.zy_lms.specs.Tree.{tree_node}

-- the list has a place for each node of the tree of height h, and from place low on node r stands at
-- place r: n levels above the leaves and d below the root are the nodes from 2^d up to 2 * 2^d
pub record HoldsNodes (t : OtsType) (id seed : List ℕ) (h : ℕ) (nodes : List Digest) (low : ℕ) : Type 0 where
  pub whole : length nodes ≡ 2 * 2 ^ h
  pub node : (n d r : ℕ) (x : Digest) → n + d ≡ h → 2 ^ d ≤ r → r < 2 * 2 ^ d → low ≤ r
      → (slice_index_or nodes r x).0 ≡ tree_node t id seed h n r
