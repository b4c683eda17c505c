use Rattle.std.proofs.Common.{◌≡◌, ◌-◌, ◌≤◌, ◌+◌, take, drop, length, ap, ◌∙◌, sym, arith}
use Rattle.std.proofs.lemmas.List.{length-drop}
use Rattle.zy_chain.specs.Heads.{head_from}
use Rattle.zy_chain.specs.Stretch.{Stretch}
use Rattle.zy_chain.proofs.HeadLemmas.{drop-heads_from, in_range-drop}
use Rattle.zy_chain.proofs.spine.Spine.cut_below.Goals as goal

pub invariant_of-self : goal.invariant_of-self
invariant_of-self c =
    let dropped = c.args.place.0 - c.self.inside.base.0 in
    let entries = c.self.inside.entries.items in
    let head : c.head_after-self-inside.result ≡ head_from c.self.inside.base_head (take dropped entries) =
    c.head_after-self-inside.ensures ∙ sym (ap (λ (s : Stretch). head_from s.base.head (take dropped s.entries)) c.self.view_is) in
    let above : c.self.inside.base.0 ≤ c.args.place.0 = rw (← c.self.view_is) at c.requires.above in
    let below : c.args.place.0 ≤ c.self.inside.base.0 + length entries = rw (← c.self.view_is) at c.requires.below in
    rw (c.drop_front.ensures, c.drop_front-2.ensures, head) (record {
      heads_are = ap (drop dropped) c.self.invariant.heads_are ∙ drop-heads_from dropped c.self.inside.base_head entries;
      in_range = in_range-drop dropped entries c.self.invariant.in_range;
      fits = omega (arith, length-drop dropped entries, c.self.invariant.fits);
    })
