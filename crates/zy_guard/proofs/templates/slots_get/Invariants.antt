use Rattle.std.proofs.Common.{◌≡◌, ◌-◌}
use Rattle.zy_wire.specs.Spelling.{repeated_at}
use Rattle.zy_tuple.specs.Bytes.{slot}
use Rattle.zy_tuple.proofs.Items.{with_front}
use Rattle.zy_guard.proofs.templates.slots_get.Given as goal

abbrev pub invariant-loop-place : goal.invariant-loop-place
invariant-loop-place l = with_front l.slots.items (repeated_at slot (l.count - l.place) l.cut) ≡ repeated_at slot l.count l.fn.cut
