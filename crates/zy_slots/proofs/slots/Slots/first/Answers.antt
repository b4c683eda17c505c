use Rattle.std.proofs.Common.{◌∙◌}
use Rattle.zy_slots.proofs.SlotsLemmas.{order_first}
use Rattle.zy_slots.proofs.slots.Slots.first.Goals as goal

pub returns : goal.returns
returns g c = c.named.ensures ∙ order_first _ _ _ _ _ c.self.invariant _ c.self.view_is
