use Rattle.std.proofs.Common.{◌≡◌, ◌∙◌, length, Some, sym}
use Rattle.zy_slots.proofs.CallLemmas.{Forgets}
use Rattle.zy_slots.proofs.SlotsLemmas.{no_lowest, needs_lowest, has_lowest, free_within, lowest_value, released_is, released_some, forgotten_linked, forgotten_view}
use Rattle.zy_slots.proofs.slots.Slots.forget.Given.{Over}
use Rattle.zy_slots.proofs.slots.Slots.forget.Goals as goal

pub unreachable-requires : goal.unreachable-requires
unreachable-requires g c = no_lowest _ _ _ _ _ c.self.invariant _ c.self.view_is c.requires (sym c.get.ensures ∙ c.in_default.is)

pub detach-requires : goal.detach-requires
detach-requires g c =
    let needs = needs_lowest _ _ _ _ _ c.self.invariant _ c.self.view_is c.requires c.in-Some.place (sym c.get.ensures ∙ c.in-Some.is) in
    record { place = needs.within; link = needs.pile }

pub release-value-requires : goal.release-value-requires
release-value-requires g c =
    let needs = needs_lowest _ _ _ _ _ c.self.invariant _ c.self.view_is c.requires c.in-Some.place (sym c.get.ensures ∙ c.in-Some.is) in
    rw c.detach.ensures.rest.as_many needs.within

pub put_first-requires : goal.put_first-requires
put_first-requires g c =
    let needs = needs_lowest _ _ _ _ _ c.self.invariant _ c.self.view_is c.requires c.in-Some.place (sym c.get.ensures ∙ c.in-Some.is) in
    let many : length c.release-value.new.slots.items ≡ length c.self.inside.slots.items = c.release-value.ensures.now.as_many ∙ c.detach.ensures.rest.as_many in
    rw many (record { place = needs.within; fits = c.self.invariant.shape.sound.few; first = (free_within _ _ _ _ _ c.self.invariant).1 })

steps : (g : Over) (c : goal.In-Some-value g)
    → Forgets c.self.inside.slots.items c.self.inside.stack c.self.inside.free c.put_first.new.slots.items c.detach.new.ends c.put_first.new.ends c.in-Some.place
steps g c =
    record {
      off = c.detach.new.slots.items;
      emptied = c.release-value.new.slots.items;
      from_stack = c.detach.ensures.links;
      beside = c.detach.ensures.rest;
      held = c.release-value.ensures.now;
      onto = c.put_first.ensures.links;
      beside' = c.put_first.ensures.rest;
    }

pub invariant_of-self : goal.invariant_of-self
invariant_of-self g c =
    forgotten_linked _ _ _ _ _ c.self.invariant _ c.self.view_is _ _ _ _ (sym c.get.ensures ∙ c.in-Some.is) (steps g c) c.requires

pub unreachable-requires-in-None : goal.unreachable-requires-in-None
unreachable-requires-in-None g c =
    let end = has_lowest c.args.self.now.stack c.requires in
    released_some c.self.inside.slots.items c.detach.new.slots.items c.in-Some.place c.release-value.result end.1.cell.value c.in-None.is c.release-value.ensures.value (c.detach.ensures.rest.held c.in-Some.place)
    (lowest_value _ _ _ _ _ c.self.invariant _ c.self.view_is end.0 end.1 end.2 c.in-Some.place (sym c.get.ensures ∙ c.in-Some.is))

pub returns : goal.returns
returns g c =
    record {
      value = λ above lowest split.
          released_is c.self.inside.slots.items c.detach.new.slots.items c.in-Some.place c.release-value.result c.in-Some-value.value lowest.cell.value c.in-Some-value.is c.release-value.ensures.value (c.detach.ensures.rest.held c.in-Some.place)
          (lowest_value _ _ _ _ _ c.self.invariant _ c.self.view_is above lowest split c.in-Some.place (sym c.get.ensures ∙ c.in-Some.is));
      taken = λ above lowest split.
          forgotten_view _ _ _ _ _ c.self.invariant _ c.self.view_is _ _ _ _ (sym c.get.ensures ∙ c.in-Some.is) (steps g c) above lowest split;
    }
