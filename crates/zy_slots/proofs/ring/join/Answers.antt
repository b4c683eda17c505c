use Rattle.std.proofs.Common.{refl, ap}
use Rattle.zy_slots.proofs.PutLemmas.{next_of, prev_of, joined_by_puts}
use Rattle.zy_slots.proofs.ring.join.Goals as goal

pub returns-clause-links : goal.returns-clause-links
returns-clause-links g c =
    joined_by_puts _ _ _ _ _ _ _ _ _ c.put_link.ensures.links c.put_link-2.ensures.links (ap prev_of c.link_at.ensures) refl refl (ap next_of c.link_at-2.ensures)
