-- How the kept nodes come to be, from the last to the first.
use Rattle.std.proofs.Common.{arith, zero, suc, ◌≡◌, ◌-◌, ◌≤◌, ◌<◌, length, ℕ, ◌+◌, ◌*◌, ◌^◌, List, ◌∙◌, ap, refl, ⊎_elim, length-set, get_or-set_same, get_or-set_other}
use Rattle.std.specs.Prelude.{slice_index_or, slice_set}
use Rattle.std.proofs.Math.Pow.{pow_mono}
use Rattle.std.proofs.lemmas.Bool.{cases_eq}
use Rattle.zy_base.specs.declared.ids.Digest.{Digest}
use Rattle.zy_ots.specs.declared.ots_type.OtsType.{OtsType}
use Rattle.zy_ots.specs.OneTime.{public_of}
use Rattle.zy_lms.specs.Tree.{leaf_node, inner_node, tree_node}
use Rattle.zy_lms.specs.Nodes.{HoldsNodes}
use Rattle.zy_lms.proofs.TreeLemmas.{two_more}

module _ (t : OtsType) (id seed : List ℕ) (h : ℕ) where
  -- no node stands past the last
  pub holds_none : (nodes : List Digest) (low : ℕ) → length nodes ≡ 2 * 2 ^ h → 2 * 2 ^ h ≤ low
      → HoldsNodes t id seed h nodes low
  holds_none nodes low whole past = record {
    whole = whole;
    node = λ n d r x sum above below from. absurd (let most : 2 ^ d ≤ 2 ^ h = pow_mono (omega arith) in omega arith);
  }

  -- one more node, before the others
  pub holds_more : (nodes : List Digest) (value : Digest) (low : ℕ) → low < length nodes
      → HoldsNodes t id seed h nodes (low + 1)
      → ((n d : ℕ) → n + d ≡ h → 2 ^ d ≤ low → low < 2 * 2 ^ d → value.0 ≡ tree_node t id seed h n low)
      → HoldsNodes t id seed h (slice_set nodes low value) low
  holds_more nodes value low inside holds is = record {
    whole = length-set nodes low value ∙ holds.whole;
    node = λ n d r x sum above below from.
        ⊎_elim
        (λ here. rw here (ap (λ e. e.0) (get_or-set_same nodes low value x inside) ∙ is n d sum (rw here at above) (rw here at below)))
        (λ other. ap (λ e. e.0) (get_or-set_other nodes low r value x other) ∙ holds.node n d r x sum above below (omega arith))
        (cases_eq r low);
  }

  -- from the first node on is all of them
  pub holds_all : (nodes : List Digest) (low : ℕ) → low ≤ 1 → HoldsNodes t id seed h nodes low
      → HoldsNodes t id seed h nodes 1
  holds_all nodes low first holds = record {
    whole = holds.whole;
    node = λ n d r x sum above below from. holds.node n d r x sum above below (omega arith);
  }

  -- a node among the leaves
  pub leaf-tree_node : (n d r : ℕ) (value : List ℕ) → n + d ≡ h → r < 2 * 2 ^ d → 2 ^ h ≤ r
      → value ≡ leaf_node id r (public_of t id (r - 2 ^ h) seed) → value ≡ tree_node t id seed h n r
  unfolding tree_node
  leaf-tree_node zero d r value sum below leaf made = made
  leaf-tree_node (suc n) d r value sum below leaf made =
      absurd (let most : 2 ^ suc d ≤ 2 ^ h = pow_mono (omega arith) in omega (arith, two_more d))

  -- a node above two others
  pub inner-tree_node : (n d r : ℕ) (value : List ℕ) (nodes : List Digest) (x y : Digest) → n + d ≡ h → 2 ^ d ≤ r → r < 2 * 2 ^ d
      → 1 ≤ r → r < 2 ^ h → HoldsNodes t id seed h nodes (r + 1)
      → value ≡ inner_node id r (slice_index_or nodes (2 * r) x).0 (slice_index_or nodes (2 * r + 1) y).0
      → value ≡ tree_node t id seed h n r
  unfolding tree_node
  inner-tree_node zero d r value nodes x y sum above below some inner holds made =
      absurd (let same : 2 ^ d ≡ 2 ^ h = ap (λ e. 2 ^ e) (omega arith) in omega arith)
  inner-tree_node (suc n) d r value nodes x y sum above below some inner holds made =
      let twice = two_more d in
      let left = holds.node n (suc d) (2 * r) x (omega arith) (omega (arith, twice)) (omega (arith, twice)) (omega arith) in
      let right = holds.node n (suc d) (2 * r + 1) y (omega arith) (omega (arith, twice)) (omega (arith, twice)) (omega arith) in
      made ∙ rw (left, right) refl
