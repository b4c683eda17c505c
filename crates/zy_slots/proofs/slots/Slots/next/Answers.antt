use Rattle.std.proofs.Common.{◌∙◌, refl}
use Rattle.zy_slots.proofs.SlotsLemmas.{order_next_of, seen_live, dead_is_not_live}
use Rattle.zy_slots.proofs.slots.Slots.next.Goals as goal

pub returns-in-Some : goal.returns-in-Some
returns-in-Some g c =
    record {
      live = λ earlier cell later stands. c.named.ensures ∙ order_next_of _ _ _ _ _ c.self.invariant _ c.self.view_is c.args.id.0 c.in-Some.slot.now c.in-Some.ensures.some.0 earlier cell later stands;
      none = λ not. absurd (not (seen_live _ _ _ _ _ c.self.invariant _ c.self.view_is c.args.id.0 c.in-Some.slot.now c.in-Some.ensures.some.0 c.in-Some.ensures.some.1));
    }

pub returns-in-None : goal.returns-in-None
returns-in-None g c =
    record {
      live = λ earlier cell later stands. absurd (dead_is_not_live _ _ _ _ _ c.self.invariant _ c.self.view_is c.args.id.0 c.in-None.ensures.none earlier cell later stands);
      none = λ not. refl;
    }
