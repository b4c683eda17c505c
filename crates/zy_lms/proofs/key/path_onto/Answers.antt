use Rattle.std.proofs.Common.{arith, ◌≡◌, ◌≤◌, ◌<◌, ◌-◌, ◌+◌, ◌/◌, ◌^◌, ◌++◌, [], ◌∙◌, ap, sym, append_assoc}
use Rattle.std.specs.Prelude.{bit_xor}
use Rattle.std.specs.List.{concat}
use Rattle.std.proofs.Math.Pow.{pow_mono}
use Rattle.std.proofs.lemmas.Nat.{pow_pos}
use Rattle.std.proofs.lemmas.List.{append-nil}
use Rattle.zy_lms.specs.Height.{levels_of}
use Rattle.zy_lms.specs.Tree.{path_from, tree_node}
use Rattle.zy_lms.proofs.TreeLemmas.{path_start, path_level, path_done, beside_path}
use Rattle.zy_lms.proofs.key.path_onto.Goals as goal

pub levels-init : goal.levels-init
levels-init c t id seed holds =
    ap (λ path. c.args.out.items ++ concat path) (path_start t id seed (levels_of c.args.height) c.args.leaf)

pub bounds-nodes-beside : goal.bounds-nodes-beside
bounds-nodes-beside c =
    let h = levels_of c.args.height in
    let level = c.levels.level in
    let under : level < h = rw c.levels-level-end.ensures at c.levels-test.true in
    let within = beside_path level h c.args.leaf under c.requires.low c.requires.high in
    let most : 2 ^ (h - level) ≤ 2 ^ h = pow_mono (omega arith) in
    omega (arith, within.1, most, c.requires.whole)

pub levels-preserved : goal.levels-preserved
levels-preserved c t id seed holds =
    let h = levels_of c.args.height in
    let level = c.levels.level in
    let r = c.args.leaf / 2 ^ level in
    let under : level < h = rw c.levels-level-end.ensures at c.levels-test.true in
    let within = beside_path level h c.args.leaf under c.requires.low c.requires.high in
    let some : 1 ≤ bit_xor r 1 = omega (arith, within.0, pow_pos (h - level)) in
    let node = holds.node level (h - level) (bit_xor r 1) (record { 0 = [] }) (omega arith) within.0 within.1 some in
    let rest = path_from t id seed h (level + 1) (h - (level + 1)) (c.args.leaf / 2 ^ (level + 1)) in
    rw (c.in_ok-extend_from_slice.ensures.items, node)
    (append_assoc c.levels.out.items (tree_node t id seed h level (bit_xor r 1)) (concat rest)
    ∙ ap (λ path. c.levels.out.items ++ concat path) (sym (path_level t id seed level h c.args.leaf under))
    ∙ c.levels.invariant t id seed holds)

pub returns : goal.returns
returns c t id seed holds =
    let h = levels_of c.args.height in
    let done : h ≡ c.levels.level = omega (arith, c.levels-level-end.ensures) in
    sym (append-nil c.levels.out.items)
    ∙ ap (λ path. c.levels.out.items ++ concat path) (sym (path_done t id seed c.levels.level h (c.args.leaf / 2 ^ c.levels.level) done))
    ∙ c.levels.invariant t id seed holds
