use Rattle.std.proofs.Common.{rules, ℕ, List, ◌≡◌, ◌-◌, ◌<◌, suc, length, take, get_or, deque_len, ap, ◌∙◌, arith}
use Rattle.zy_base.specs.declared.ids.Digest.{Digest}
use Rattle.zy_chain.specs.Heads.{head_from}
use Rattle.zy_chain.specs.Stretch.{Stretch}
use Rattle.zy_chain.proofs.HeadLemmas.{length-heads_from, get_or-heads_from}
use Rattle.zy_chain.proofs.spine.Spine.head_after.Goals as goal

pub index-requires : goal.index-requires
index-requires c =
    let held : deque_len c.self.inside.heads ≡ length c.self.inside.heads.items = search rules in
    let as_many = ap length c.self.invariant.heads_are ∙ length-heads_from c.self.inside.base_head c.self.inside.entries.items in
    let seen = ap (λ (s : Stretch). length s.entries) c.self.view_is in
    let some : c.args.count ≡ 0 → ⊥ = search rules in
    omega arith

pub returns-else-count-eq0 : goal.returns-else-count-eq0
returns-else-count-eq0 c =
    let heads = c.self.inside.heads.items in
    let entries = c.self.inside.entries.items in
    let base = c.self.inside.base_head in
    let seen = ap (λ (s : Stretch). length s.entries) c.self.view_is in
    let some : c.args.count ≡ 0 → ⊥ = search rules in
    let within : c.args.count - 1 < length entries = omega arith in
    let next : suc (c.args.count - 1) ≡ c.args.count = omega arith in
    c.index.ensures
    ∙ ap (λ (all : List Digest). get_or all (c.args.count - 1) c.index.result.now) c.self.invariant.heads_are
    ∙ get_or-heads_from base entries (c.args.count - 1) c.index.result.now within
    ∙ ap (λ (n : ℕ). head_from base (take n entries)) next
    ∙ ap (λ (s : Stretch). head_from s.base.head (take c.args.count s.entries)) c.self.view_is
