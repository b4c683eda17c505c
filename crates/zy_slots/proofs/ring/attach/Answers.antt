use Rattle.zy_slots.specs.Columns.{linked}
use Rattle.zy_slots.proofs.ring.attach.Goals as goal

pub returns-clause-links : goal.returns-clause-links
returns-clause-links g c = record {
  middle = linked c.args.kind c.put_link.new.slots.items c.put_link.new.ends;
  put = rw c.at.ensures at c.put_link.ensures.links;
  joined = rw c.both.ensures at c.join.ensures.links;
}
