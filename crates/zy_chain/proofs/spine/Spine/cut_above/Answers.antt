use Rattle.std.proofs.Common.{◌-◌, take, ap, ◌∙◌, arith}
use Rattle.std.proofs.lemmas.List.{length-take}
use Rattle.zy_chain.proofs.HeadLemmas.{take-heads_from, in_range-take}
use Rattle.zy_chain.proofs.spine.Spine.cut_above.Goals as goal

pub invariant_of-self : goal.invariant_of-self
invariant_of-self c =
    let kept = c.args.place.0 - c.self.inside.base.0 in
    rw (c.truncate.ensures.items, c.truncate-2.ensures.items) (record {
      heads_are = ap (take kept) c.self.invariant.heads_are ∙ take-heads_from kept c.self.inside.base_head c.self.inside.entries.items;
      in_range = in_range-take kept c.self.inside.entries.items c.self.invariant.in_range;
      fits = omega (arith, length-take kept c.self.inside.entries.items, c.self.invariant.fits);
    })
