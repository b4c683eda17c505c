use Rattle.std.proofs.Common.{◌≡◌, take}
use Rattle.zy_table.specs.Sending.{outgoing_to}
use Rattle.zy_table.proofs.sending.outgoing.Given as goal

abbrev pub invariant-loop-one : goal.invariant-loop-one
invariant-loop-one l = l.out ≡ outgoing_to l.all (take l.one-index l.sent)
