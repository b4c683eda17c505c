use Rattle.std.proofs.Common.{◌≡◌, ◌<◌, ◌∙◌, length, subst, sym, ap}
use Rattle.zy_slots.specs.Cells.{relinked, CanRelink}
use Rattle.zy_slots.proofs.CallLemmas.{Unlinks}
use Rattle.zy_slots.proofs.SlotsLemmas.{needs_live, stack_within, unlinked_linked, unlinked_view, can_relink, unlinked_back}
use Rattle.zy_slots.proofs.slots.Slots.unlink.Goals as goal

pub take_out-requires : goal.take_out-requires
take_out-requires g c =
    let needs = needs_live _ _ _ _ _ c.self.invariant _ c.self.view_is c.args.id.0 c.requires in
    record { place = needs.within; bucket = needs.fits; order = needs.order; chain = needs.chain }

pub set_live-requires : goal.set_live-requires
set_live-requires g c =
    let needs = needs_live _ _ _ _ _ c.self.invariant _ c.self.view_is c.args.id.0 c.requires in
    rw c.take_out.ensures.rest.as_many needs.within

pub put_first-requires : goal.put_first-requires
put_first-requires g c =
    let needs = needs_live _ _ _ _ _ c.self.invariant _ c.self.view_is c.args.id.0 c.requires in
    let many : length c.set_live.new.slots.items ≡ length c.self.inside.slots.items = c.set_live.ensures.as_many ∙ c.take_out.ensures.rest.as_many in
    rw many (record { place = needs.within; fits = c.self.invariant.shape.sound.few; first = (stack_within _ _ _ _ _ c.self.invariant).1 })

pub invariant_of-self : goal.invariant_of-self
invariant_of-self g c =
    let steps : Unlinks c.self.inside.slots.items c.self.inside.order c.self.inside.chains c.self.inside.stack c.put_first.new.slots.items c.take_out.new.order c.take_out.new.chains c.put_first.new.ends c.args.id.0 =
    record {
      out = c.take_out.new.slots.items;
      marked = c.set_live.new.slots.items;
      from_order = c.take_out.ensures.order;
      from_chain = c.take_out.ensures.chain;
      in_piles = c.take_out.ensures.rest;
      held = c.set_live.ensures;
      onto = c.put_first.ensures.links;
      beside = c.put_first.ensures.rest;
    } in
    unlinked_linked _ _ _ _ _ c.self.invariant _ c.self.view_is _ _ _ _ _ steps c.requires

pub returns : goal.returns
returns g c =
    let steps : Unlinks c.self.inside.slots.items c.self.inside.order c.self.inside.chains c.self.inside.stack c.put_first.new.slots.items c.take_out.new.order c.take_out.new.chains c.put_first.new.ends c.args.id.0 =
    record {
      out = c.take_out.new.slots.items;
      marked = c.set_live.new.slots.items;
      from_order = c.take_out.ensures.order;
      from_chain = c.take_out.ensures.chain;
      in_piles = c.take_out.ensures.rest;
      held = c.set_live.ensures;
      onto = c.put_first.ensures.links;
      beside = c.put_first.ensures.rest;
    } in
    let moved = unlinked_view _ _ _ _ _ c.self.invariant _ c.self.view_is _ _ _ _ _ steps in
    let here = moved c.requires.0 c.requires.1 c.requires.2 c.requires.3 in
    record {
      moved = moved;
      ready = subst CanRelink (sym here) (can_relink c.requires.0 c.requires.1 c.requires.2 c.args.self.now.stack);
      back = ap relinked here ∙ unlinked_back _ _ _ _ _ c.self.invariant _ c.self.view_is c.requires.0 c.requires.1 c.requires.2 c.requires.3.split;
    }
