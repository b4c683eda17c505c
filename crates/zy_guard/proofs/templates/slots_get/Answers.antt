use Rattle.zy_wire.specs.Spelling.{repeated_at}
use Rattle.zy_tuple.specs.Bytes.{slot}
use Rattle.zy_tuple.proofs.Items.{goes_on}
use Rattle.zy_guard.proofs.templates.slots_get.Goals as goal

pub loop-place-preserved : goal.loop-place-preserved
loop-place-preserved c = rw c.in_ok-push.ensures.items (goes_on slot c.loop-place.slots.items c.args.count c.loop-place.place c.loop-place.cut c.in_ok-slot_get.field-0 c.slot_get.new.cut (repeated_at slot c.args.count c.args.cut.now) c.loop-place-test.true c.in_ok-slot_get.ensures c.loop-place.invariant)
