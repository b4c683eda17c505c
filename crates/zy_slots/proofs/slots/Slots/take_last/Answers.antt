use Rattle.std.proofs.Common.{◌≡◌, ◌∙◌, length, Some, sym}
use Rattle.zy_slots.proofs.CallLemmas.{Takes}
use Rattle.zy_slots.proofs.SlotsLemmas.{no_last, needs_last, free_within, last_value, released_is, released_some, taken_last_linked, taken_last_view}
use Rattle.zy_slots.proofs.slots.Slots.take_last.Given.{Over}
use Rattle.zy_slots.proofs.slots.Slots.take_last.Goals as goal

pub unreachable-requires : goal.unreachable-requires
unreachable-requires g c = no_last _ _ _ _ _ c.self.invariant _ c.self.view_is c.requires (sym c.get.ensures ∙ c.in_default.is)

pub take_out-requires : goal.take_out-requires
take_out-requires g c =
    let needs = needs_last _ _ _ _ _ c.self.invariant _ c.self.view_is c.requires c.in-Some.last (sym c.get.ensures ∙ c.in-Some.is) in
    record { place = needs.within; bucket = needs.fits; order = needs.order; chain = needs.chain }

pub release-value-requires : goal.release-value-requires
release-value-requires g c =
    let needs = needs_last _ _ _ _ _ c.self.invariant _ c.self.view_is c.requires c.in-Some.last (sym c.get.ensures ∙ c.in-Some.is) in
    rw c.take_out.ensures.rest.as_many needs.within

pub put_first-requires : goal.put_first-requires
put_first-requires g c =
    let needs = needs_last _ _ _ _ _ c.self.invariant _ c.self.view_is c.requires c.in-Some.last (sym c.get.ensures ∙ c.in-Some.is) in
    let many : length c.release-value.new.slots.items ≡ length c.self.inside.slots.items = c.release-value.ensures.now.as_many ∙ c.take_out.ensures.rest.as_many in
    rw many (record { place = needs.within; fits = c.self.invariant.shape.sound.few; first = (free_within _ _ _ _ _ c.self.invariant).1 })

steps : (g : Over) (c : goal.In-Some-value g)
    → Takes c.self.inside.slots.items c.self.inside.order c.self.inside.chains c.self.inside.free c.put_first.new.slots.items c.take_out.new.order c.take_out.new.chains c.put_first.new.ends c.in-Some.last
steps g c =
    record {
      out = c.take_out.new.slots.items;
      emptied = c.release-value.new.slots.items;
      from_order = c.take_out.ensures.order;
      from_chain = c.take_out.ensures.chain;
      in_piles = c.take_out.ensures.rest;
      held = c.release-value.ensures.now;
      onto = c.put_first.ensures.links;
      beside = c.put_first.ensures.rest;
    }

pub invariant_of-self : goal.invariant_of-self
invariant_of-self g c =
    taken_last_linked _ _ _ _ _ c.self.invariant _ c.self.view_is _ _ _ _ _ (sym c.get.ensures ∙ c.in-Some.is) (steps g c) c.requires

pub unreachable-requires-in-None : goal.unreachable-requires-in-None
unreachable-requires-in-None g c =
    released_some c.self.inside.slots.items c.take_out.new.slots.items c.in-Some.last c.release-value.result c.requires.last.value c.in-None.is c.release-value.ensures.value (c.take_out.ensures.rest.held c.in-Some.last)
    (last_value _ _ _ _ _ c.self.invariant _ c.self.view_is c.requires.front c.requires.last c.requires.split c.in-Some.last (sym c.get.ensures ∙ c.in-Some.is))

pub returns : goal.returns
returns g c =
    record {
      value = λ front last split.
          released_is c.self.inside.slots.items c.take_out.new.slots.items c.in-Some.last c.release-value.result c.in-Some-value.value last.value c.in-Some-value.is c.release-value.ensures.value (c.take_out.ensures.rest.held c.in-Some.last)
          (last_value _ _ _ _ _ c.self.invariant _ c.self.view_is front last split c.in-Some.last (sym c.get.ensures ∙ c.in-Some.is));
      taken = λ front last split.
          taken_last_view _ _ _ _ _ c.self.invariant _ c.self.view_is _ _ _ _ _ (sym c.get.ensures ∙ c.in-Some.is) (steps g c) c.requires front last split;
    }
