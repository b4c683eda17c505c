use Rattle.std.proofs.Common.{◌∙◌, sym}
use Rattle.zy_slots.proofs.CallLemmas.{Relinks}
use Rattle.zy_slots.proofs.SlotsLemmas.{needs_top, needs_put_back, no_top, relinked_linked, relinked_view}
use Rattle.zy_slots.proofs.slots.Slots.relink.Given.{Over}
use Rattle.zy_slots.proofs.slots.Slots.relink.Goals as goal

pub unreachable-requires : goal.unreachable-requires
unreachable-requires g c = no_top _ _ _ _ _ c.self.invariant _ c.self.view_is c.requires (sym c.get.ensures ∙ c.in_default.is)

pub detach-requires : goal.detach-requires
detach-requires g c =
    let needs = needs_top _ _ _ _ _ c.self.invariant _ c.self.view_is c.requires c.in-Some.place (sym c.get.ensures ∙ c.in-Some.is) in
    record { place = needs.1.within; link = needs.1.pile }

pub set_live-requires : goal.set_live-requires
set_live-requires g c =
    let needs = needs_top _ _ _ _ _ c.self.invariant _ c.self.view_is c.requires c.in-Some.place (sym c.get.ensures ∙ c.in-Some.is) in
    rw c.detach.ensures.rest.as_many needs.1.within

pub link_in-sides-requires : goal.link_in-sides-requires
link_in-sides-requires g c =
    let needs = needs_top _ _ _ _ _ c.self.invariant _ c.self.view_is c.requires c.in-Some.place (sym c.get.ensures ∙ c.in-Some.is) in
    rw (c.set_live.ensures.as_many, c.detach.ensures.rest.as_many) needs.1.within

pub link_in-chain_sides-requires : goal.link_in-chain_sides-requires
link_in-chain_sides-requires g c =
    let needs = needs_top _ _ _ _ _ c.self.invariant _ c.self.view_is c.requires c.in-Some.place (sym c.get.ensures ∙ c.in-Some.is) in
    rw (c.set_live.ensures.as_many, c.detach.ensures.rest.as_many) needs.1.within

pub put_in-requires : goal.put_in-requires
put_in-requires g c =
    let needs = needs_top _ _ _ _ _ c.self.invariant _ c.self.view_is c.requires c.in-Some.place (sym c.get.ensures ∙ c.in-Some.is) in
    let put = needs_put_back c.self.inside.slots.items c.detach.new.slots.items c.set_live.new.slots.items c.in-Some.place c.link_in-sides.result c.link_in-chain_sides.result
    needs.0 c.self.invariant.shape.sound.few c.detach.ensures.rest c.set_live.ensures c.link_in-sides.ensures c.link_in-chain_sides.ensures in
    record { place = put.within; fits = put.few; bucket = put.fits; order = put.order; chain = put.chain }

steps : (g : Over) (c : goal.After-put_in g)
    → Relinks c.self.inside.slots.items c.self.inside.order c.self.inside.chains c.self.inside.stack c.put_in.new.slots.items c.put_in.new.order c.put_in.new.chains c.detach.new.ends c.in-Some.place
steps g c =
    record {
      off = c.detach.new.slots.items;
      marked = c.set_live.new.slots.items;
      from_stack = c.detach.ensures.links;
      beside = c.detach.ensures.rest;
      held = c.set_live.ensures;
      into_order = rw c.link_in-sides.ensures at c.put_in.ensures.order;
      into_chain = rw c.link_in-chain_sides.ensures at c.put_in.ensures.chain;
      in_piles = c.put_in.ensures.rest;
    }

pub invariant_of-self : goal.invariant_of-self
invariant_of-self g c =
    relinked_linked _ _ _ _ _ c.self.invariant _ c.self.view_is c.requires _ _ _ _ _ (sym c.get.ensures ∙ c.in-Some.is) (steps g c)

pub returns : goal.returns
returns g c =
    relinked_view _ _ _ _ _ c.self.invariant _ c.self.view_is c.requires _ _ _ _ _ (sym c.get.ensures ∙ c.in-Some.is) (steps g c)
