-- The tree of an LMS key (RFC 8554, section 5.3), authentication paths (section 5.4.1) and the climb
-- along one (section 5.4.2). Node 1 is the root, and node r has the nodes 2r and 2r + 1 below it.
use Rattle.std.specs.Prelude.{ℕ, zero, suc, ◌+◌, ◌-◌, ◌*◌, ◌/◌, ◌%◌, ◌^◌, ◌==◌, if◌then◌else◌, bit_xor, List, [], ◌∷◌, ◌++◌, take, drop}
use Rattle.sha2.specs.Sha256.{sha256}
use Rattle.zy_ots.specs.declared.ots_type.OtsType.{OtsType}
use Rattle.zy_ots.specs.Chain.{prefix_of}
use Rattle.zy_ots.specs.OneTime.{public_of}

-- a leaf (5.3): H(I || u32str(r) || u16str(D_LEAF) || OTS_PUB_HASH), r being the node's number
abbrev pub leaf_node : List ℕ → ℕ → List ℕ → List ℕ
leaf_node id r public = sha256 (prefix_of id r 0x8282 ++ public)

-- an inner node (5.3): H(I || u32str(r) || u16str(D_INTR) || T[2r] || T[2r+1])
abbrev pub inner_node : List ℕ → ℕ → List ℕ → List ℕ → List ℕ
inner_node id r left right = sha256 (prefix_of id r 0x8383 ++ left ++ right)

-- T[r] (5.3) in the tree of height h whose leaves are one-time keys of this type made from seed,
-- where node r lies n levels above the leaves
unfoldable pub tree_node : OtsType → List ℕ → List ℕ → ℕ → ℕ → ℕ → List ℕ
tree_node t id seed h zero r = leaf_node id r (public_of t id (r - 2 ^ h) seed)
tree_node t id seed h (suc n) r =
    inner_node id r (tree_node t id seed h n (2 * r)) (tree_node t id seed h n (2 * r + 1))

-- T[1]
abbrev pub root_of : OtsType → List ℕ → List ℕ → ℕ → List ℕ
root_of t id seed h = tree_node t id seed h h 1

-- the authentication path from node r, n levels above the leaves, over k levels (5.4.1): the node
-- beside it, T[r xor 1], and then the path of the node above it
unfoldable pub path_from : OtsType → List ℕ → List ℕ → ℕ → ℕ → ℕ → ℕ → List (List ℕ)
path_from t id seed h n zero r = []
path_from t id seed h n (suc k) r =
    tree_node t id seed h n (bit_xor r 1) ∷ path_from t id seed h (suc n) k (r / 2)

-- the node above node r, from the value of node r and of the node beside it (5.4.2, algorithm 6a):
-- the value of the even one comes first
abbrev pub parent_of : List ℕ → ℕ → List ℕ → List ℕ → List ℕ
parent_of id r value beside =
    if r % 2 == 0 then inner_node id (r / 2) value beside else inner_node id (r / 2) beside value

-- the root that a value at node r and the path from there lead to (5.4.2, algorithm 6a)
unfoldable pub climb : List ℕ → ℕ → List ℕ → List (List ℕ) → List ℕ
climb id r value [] = value
climb id r value (beside ∷ path) =
    if r == 1 then value else climb id (r / 2) (parent_of id r value beside) path

-- the first n nodes of 32 bytes that stand one after another
unfoldable pub nodes_in : ℕ → List ℕ → List (List ℕ)
nodes_in zero bytes = []
nodes_in (suc n) bytes = take 32 bytes ∷ nodes_in n (drop 32 bytes)
