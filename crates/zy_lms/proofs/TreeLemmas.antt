-- The numbers of a tree's nodes, and that the path of a leaf leads from it to the root.
use Rattle.std.proofs.Common.{arith, zero, suc, ◌≡◌, ◌-◌, ◌≤◌, ◌<◌, ◌∷◌, [], length, ℕ, ◌+◌, ◌*◌, ◌/◌, ◌%◌, ◌^◌, List, take, drop, sym, ◌∙◌, ap, refl, ⊎_elim, add-zero, add-one, length-append, add_comm}
use Rattle.std.specs.Prelude.{◌⊎◌, bit_xor, ◌==◌}
use Rattle.std.specs.List.{concat}
use Rattle.std.specs.Int.Bits.{xor_zero_l}
use Rattle.std.proofs.Math.Nat.{pow-succ', div-add-mod}
use Rattle.std.proofs.lemmas.Nat.{pow-add, pow_pos, shr-shr, xor_block, xor_comm, le-div, div_below, mod_below}
use Rattle.std.proofs.lemmas.Bool.{eq-eqb, ne_eqb, cond-true, cond-false}
use Rattle.std.proofs.lemmas.List.{take_at, drop_at, drop-drop}
use Rattle.sha2.proofs.Facts256.{length-sha256}
use Rattle.zy_ots.specs.declared.ots_type.OtsType.{OtsType}
use Rattle.zy_lms.specs.Tree.{inner_node, tree_node, path_from, parent_of, climb, nodes_in}

-- ---- numbers

pub two_more : (d : ℕ) → 2 ^ suc d ≡ 2 * 2 ^ d
two_more d = pow-succ' 2 d

-- a node's number is twice the number of the node above it, and one more if it is odd
pub halved : (r : ℕ) → 2 * (r / 2) + r % 2 ≡ r
halved r = div-add-mod r 2

pub even_or_odd : (r : ℕ) → (r % 2 ≡ 0) ⊎ (r % 2 ≡ 1)
even_or_odd r = grind arith

-- the numbers n levels above the leaves of a tree of height n + d
pub at_level : (n d h leaf : ℕ) → n + d ≡ h → 2 ^ h ≤ leaf → leaf < 2 * 2 ^ h
    → (2 ^ d ≤ leaf / 2 ^ n) × (leaf / 2 ^ n < 2 * 2 ^ d)
at_level n d h leaf sum low high =
    let product : 2 ^ d * 2 ^ n ≡ 2 ^ h = sym (pow-add 2 d n) ∙ ap (λ e. 2 ^ e) (add_comm d n ∙ sum) in
    let twice : 2 * 2 ^ d * 2 ^ n ≡ 2 * 2 ^ h = omega (arith, product) in
    (le-div (2 ^ d) leaf (2 ^ n) (pow_pos n) (rw product low), div_below leaf (2 ^ n) (2 * 2 ^ d) (pow_pos n) (rw twice high))

-- the node beside an even one comes after it, and the one beside an odd one before it
xor_zero_r : (a : ℕ) → bit_xor a 0 ≡ a
xor_zero_r a = xor_comm a 0 ∙ xor_zero_l a

pub beside_is : (r : ℕ) → bit_xor r 1 ≡ r / 2 * 2 + bit_xor (r % 2) 1
beside_is r =
    let split : r / 2 * 2 + r % 2 ≡ r = omega (arith, halved r) in
    ap (λ m. bit_xor m 1) (sym split)
    ∙ xor_block 1 (r / 2) 0 (r % 2) 1 (mod_below r 2 (omega arith)) (omega arith)
    ∙ ap (λ m. m * 2 + bit_xor (r % 2) 1) (xor_zero_r (r / 2))

pub beside_even : (r : ℕ) → r % 2 ≡ 0 → bit_xor r 1 ≡ r + 1
beside_even r even =
    let last : bit_xor (r % 2) 1 ≡ 1 = rw even refl in
    omega (arith, beside_is r, last, halved r)

pub beside_odd : (r : ℕ) → r % 2 ≡ 1 → bit_xor r 1 + 1 ≡ r
beside_odd r odd =
    let last : bit_xor (r % 2) 1 ≡ 0 = rw odd refl in
    omega (arith, beside_is r, last, halved r)

pub beside_at_level : (d r : ℕ) → 2 ^ suc d ≤ r → r < 2 * 2 ^ suc d
    → (2 ^ suc d ≤ bit_xor r 1) × (bit_xor r 1 < 2 * 2 ^ suc d)
beside_at_level d r low high =
    let twice = two_more d in
    ⊎_elim
    (λ even. let next = beside_even r even in (omega (arith, next), omega (arith, next, twice, halved r)))
    (λ odd. let next = beside_odd r odd in (omega (arith, next, twice, halved r), omega (arith, next)))
    (even_or_odd r)

-- ---- climbing

pub climb_end : (id value : List ℕ) (r : ℕ) → climb id r value [] ≡ value
unfolding climb
climb_end id value r = refl

pub climb_more : (id value beside : List ℕ) (path : List (List ℕ)) (r : ℕ) → 2 ≤ r
    → climb id r value (beside ∷ path) ≡ climb id (r / 2) (parent_of id r value beside) path
unfolding climb
climb_more id value beside path r above =
    cond-false (r == 1) value _ (ne_eqb r 1 (λ root. omega arith))

module _ (t : OtsType) (id seed : List ℕ) (h : ℕ) where
  -- a node's value and the one beside it give the node above
  parent-tree_node : (n r : ℕ)
      → parent_of id r (tree_node t id seed h n r) (tree_node t id seed h n (bit_xor r 1)) ≡ tree_node t id seed h (suc n) (r / 2)
  unfolding tree_node
  parent-tree_node n r =
      let value = tree_node t id seed h n r in
      let beside = tree_node t id seed h n (bit_xor r 1) in
      ⊎_elim
      (λ even.
      let left : 2 * (r / 2) ≡ r = omega (arith, halved r) in
      let right = beside_even r even in
      rw (left, ← right)
      (cond-true (r % 2 == 0) (inner_node id (r / 2) value beside) (inner_node id (r / 2) beside value) (eq-eqb (r % 2) 0 even)))
      (λ odd.
      let right : 2 * (r / 2) + 1 ≡ r = omega (arith, halved r) in
      let left : 2 * (r / 2) ≡ bit_xor r 1 = omega (arith, beside_odd r odd) in
      rw (right, left)
      (cond-false (r % 2 == 0) (inner_node id (r / 2) value beside) (inner_node id (r / 2) beside value) (ne_eqb (r % 2) 0 (λ even. omega arith))))
      (even_or_odd r)

  pub length-tree_node : (n r : ℕ) → length (tree_node t id seed h n r) ≡ 32
  unfolding tree_node
  length-tree_node zero r = length-sha256 _
  length-tree_node (suc n) r = length-sha256 _

  -- the path of a node k levels below another leads to that one
  pub climb-path_from : (n k r : ℕ) → 2 ^ k ≤ r
      → climb id r (tree_node t id seed h n r) (path_from t id seed h n k r) ≡ tree_node t id seed h (n + k) (r / 2 ^ k)
  unfolding path_from
  climb-path_from n zero r above =
      let same : r / 1 ≡ r = omega arith in
      rw (climb_end id (tree_node t id seed h n r) r, add-zero n, same) refl
  climb-path_from n (suc k) r above =
      let rest = path_from t id seed h (suc n) k (r / 2) in
      let twice = two_more k in
      let level : suc n + k ≡ n + suc k = omega arith in
      let number : r / 2 / 2 ^ k ≡ r / 2 ^ suc k = shr-shr r 1 k ∙ ap (λ e. r / 2 ^ e) (add_comm 1 k ∙ add-one k) in
      climb_more id (tree_node t id seed h n r) (tree_node t id seed h n (bit_xor r 1)) rest r (omega (arith, twice, pow_pos k))
      ∙ ap (λ v. climb id (r / 2) v rest) (parent-tree_node n r)
      ∙ climb-path_from (suc n) k (r / 2) (omega (arith, twice))
      ∙ rw (level, number) refl

  pub length-path_from : (n k r : ℕ) → length (concat (path_from t id seed h n k r)) ≡ 32 * k
  unfolding path_from
  length-path_from n zero r = refl
  length-path_from n (suc k) r =
      let beside = tree_node t id seed h n (bit_xor r 1) in
      let rest = path_from t id seed h (suc n) k (r / 2) in
      omega (arith, length-append beside (concat rest), length-tree_node n (bit_xor r 1), length-path_from (suc n) k (r / 2))

  -- the nodes of a path are read from its bytes
  pub nodes_in-path_from : (n k r : ℕ) → nodes_in k (concat (path_from t id seed h n k r)) ≡ path_from t id seed h n k r
  unfolding path_from nodes_in
  nodes_in-path_from n zero r = refl
  nodes_in-path_from n (suc k) r =
      let beside = tree_node t id seed h n (bit_xor r 1) in
      let rest = path_from t id seed h (suc n) k (r / 2) in
      let whole = length-tree_node n (bit_xor r 1) in
      rw (take_at beside (concat rest) 32 whole, drop_at beside (concat rest) 32 whole, nodes_in-path_from (suc n) k (r / 2)) refl

-- ---- one level of a climb, and of a path

-- a node above the leaves but below the root
pub level_below : (level h leaf : ℕ) → level < h → 2 ^ h ≤ leaf → 2 ≤ leaf / 2 ^ level
level_below level h leaf under low =
    let d = h - (level + 1) in
    let sum : level + suc d ≡ h = omega arith in
    let product : 2 ^ suc d * 2 ^ level ≡ 2 ^ h = sym (pow-add 2 (suc d) level) ∙ ap (λ e. 2 ^ e) (add_comm (suc d) level ∙ sum) in
    let above : 2 ^ suc d ≤ leaf / 2 ^ level = le-div (2 ^ suc d) leaf (2 ^ level) (pow_pos level) (rw product low) in
    omega (arith, above, two_more d, pow_pos d)

halved_again : (level leaf : ℕ) → leaf / 2 ^ level / 2 ≡ leaf / 2 ^ (level + 1)
halved_again level leaf = shr-shr leaf level 1

pub climb_start : (id value path : List ℕ) (h leaf : ℕ)
    → climb id leaf value (nodes_in h path) ≡ climb id (leaf / 2 ^ 0) value (nodes_in (h - 0) (drop (32 * 0) path))
climb_start id value path h leaf =
    let same : leaf / 1 ≡ leaf = omega arith in
    let whole : h - 0 ≡ h = omega arith in
    rw (same, whole) refl

pub climb_level : (id value path : List ℕ) (level h leaf : ℕ) → level < h → 2 ^ h ≤ leaf
    → climb id (leaf / 2 ^ level) value (nodes_in (h - level) (drop (32 * level) path))
    ≡ climb id (leaf / 2 ^ (level + 1)) (parent_of id (leaf / 2 ^ level) value (take 32 (drop (32 * level) path)))
    (nodes_in (h - (level + 1)) (drop (32 * (level + 1)) path))
unfolding nodes_in
climb_level id value path level h leaf under low =
    let rest = h - (level + 1) in
    let left : h - level ≡ suc rest = omega arith in
    let next : 32 * level + 32 ≡ 32 * (level + 1) = omega arith in
    let later : drop 32 (drop (32 * level) path) ≡ drop (32 * (level + 1)) path =
    drop-drop 32 (32 * level) path ∙ ap (λ n. drop n path) next in
    rw (left, ← later, ← halved_again level leaf)
    (climb_more id value (take 32 (drop (32 * level) path)) (nodes_in rest (drop 32 (drop (32 * level) path))) (leaf / 2 ^ level) (level_below level h leaf under low))

pub climb_done : (id value path : List ℕ) (level h leaf : ℕ) → h ≡ level
    → climb id (leaf / 2 ^ level) value (nodes_in (h - level) (drop (32 * level) path)) ≡ value
unfolding nodes_in
climb_done id value path level h leaf done =
    let none : h - level ≡ 0 = omega arith in
    rw none (climb_end id value (leaf / 2 ^ level))

pub path_start : (t : OtsType) (id seed : List ℕ) (h leaf : ℕ)
    → path_from t id seed h 0 (h - 0) (leaf / 2 ^ 0) ≡ path_from t id seed h 0 h leaf
path_start t id seed h leaf =
    let same : leaf / 1 ≡ leaf = omega arith in
    let whole : h - 0 ≡ h = omega arith in
    rw (same, whole) refl

pub path_level : (t : OtsType) (id seed : List ℕ) (level h leaf : ℕ) → level < h
    → path_from t id seed h level (h - level) (leaf / 2 ^ level)
    ≡ tree_node t id seed h level (bit_xor (leaf / 2 ^ level) 1) ∷ path_from t id seed h (level + 1) (h - (level + 1)) (leaf / 2 ^ (level + 1))
unfolding path_from
path_level t id seed level h leaf under =
    let rest = h - (level + 1) in
    let left : h - level ≡ suc rest = omega arith in
    rw (left, ← halved_again level leaf, add-one level) refl

pub path_done : (t : OtsType) (id seed : List ℕ) (level h r : ℕ) → h ≡ level
    → path_from t id seed h level (h - level) r ≡ []
unfolding path_from
path_done t id seed level h r done =
    let none : h - level ≡ 0 = omega arith in
    rw none refl

-- the node beside a leaf's path lies on its level
pub beside_path : (level h leaf : ℕ) → level < h → 2 ^ h ≤ leaf → leaf < 2 * 2 ^ h
    → (2 ^ (h - level) ≤ bit_xor (leaf / 2 ^ level) 1) × (bit_xor (leaf / 2 ^ level) 1 < 2 * 2 ^ (h - level))
beside_path level h leaf under low high =
    let d = h - (level + 1) in
    let left : h - level ≡ suc d = omega arith in
    let within = at_level level (suc d) h leaf (omega arith) low high in
    rw left (beside_at_level d (leaf / 2 ^ level) within.0 within.1)
