use Rattle.zy_slots.proofs.SlotsLemmas.{empty_linked}
use Rattle.zy_slots.proofs.slots.Slots.new.Goals as goal

pub invariant_of-result : goal.invariant_of-result
invariant_of-result g c = empty_linked _ _ _ _ _ c.new.ensures.items c.none.ensures c.empty_chains.ensures c.none-2.ensures c.none-3.ensures
