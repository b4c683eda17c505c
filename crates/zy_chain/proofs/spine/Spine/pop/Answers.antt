use Rattle.std.proofs.Common.{rules, ◌≡◌, ◌-◌, ℕ, length, take, deque_len, ap, ◌∙◌, arith}
use Rattle.std.proofs.lemmas.List.{length-take}
use Rattle.zy_chain.proofs.HeadLemmas.{length-heads_from, take-heads_from, in_range-take}
use Rattle.zy_chain.proofs.spine.Spine.pop.Goals as goal

pub invariant_of-self : goal.invariant_of-self
invariant_of-self c =
    let entries = c.self.inside.entries.items in
    let heads = c.self.inside.heads.items in
    let held : deque_len c.self.inside.entries ≡ length entries = search rules in
    let held_heads : deque_len c.self.inside.heads ≡ length heads = search rules in
    let as_many : length heads ≡ length entries = ap length c.self.invariant.heads_are ∙ length-heads_from c.self.inside.base_head entries in
    let kept = length entries - 1 in
    let heads_now = c.pop_back.ensures.rest ∙ ap (λ (n : ℕ). take (n - 1) heads) (held_heads ∙ as_many) in
    let entries_now = c.pop_back-2.ensures.rest ∙ ap (λ (n : ℕ). take (n - 1) entries) held in
    rw (heads_now, entries_now) (record {
      heads_are = ap (take kept) c.self.invariant.heads_are ∙ take-heads_from kept c.self.inside.base_head entries;
      in_range = in_range-take kept entries c.self.invariant.in_range;
      fits = omega (arith, length-take kept entries, c.self.invariant.fits);
    })
