use Rattle.std.proofs.Common.{◌+◌, ◌∷◌, [], length, ap, sym, arith}
use Rattle.std.proofs.lemmas.List.{length-append}
use Rattle.zy_chain.specs.Stretch.{Stretch}
use Rattle.zy_chain.proofs.HeadLemmas.{heads_from-append, in_range-append}
use Rattle.zy_chain.proofs.spine.Spine.push.Goals as goal

pub invariant_of-self-3 : goal.invariant_of-self-3
invariant_of-self-3 c =
    let room = c.requires.room in
    let seen = ap (λ (s : Stretch). s.base.place + length s.entries) c.self.view_is in
    record {
      heads_are = rw (c.push_back_reserved.ensures.items, c.push_back_reserved-2.ensures.items, c.in_default.ensures.items, c.in_default-reserve.ensures.items, c.next_head-head.ensures, c.head.ensures, c.in_default-reserve.ensures.items, c.entry_digest.ensures, c.self.invariant.heads_are) (sym (heads_from-append c.self.inside.base_head c.self.inside.entries.items c.args.e));
      in_range = rw (c.push_back_reserved-2.ensures.items, c.in_default-reserve.ensures.items) (in_range-append c.self.inside.entries.items c.args.e c.self.invariant.in_range c.requires.entry);
      fits = rw (c.push_back_reserved-2.ensures.items, c.in_default-reserve.ensures.items) (omega (arith, length-append c.self.inside.entries.items (c.args.e ∷ [])));
    }
