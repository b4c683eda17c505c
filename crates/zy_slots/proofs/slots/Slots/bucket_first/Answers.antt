use Rattle.zy_slots.proofs.SlotsLemmas.{first_of_chain}
use Rattle.zy_slots.proofs.slots.Slots.bucket_first.Goals as goal

pub returns : goal.returns
returns g c = first_of_chain _ _ _ _ _ c.self.invariant _ c.self.view_is c.args.bucket c.first_in_chain.result c.first_in_chain.ensures.some c.first_in_chain.ensures.none
