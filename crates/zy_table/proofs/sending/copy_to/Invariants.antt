use Rattle.std.proofs.Common.{◌≡◌, ◌++◌, take}
use Rattle.zy_table.specs.Sending.{copies}
use Rattle.zy_table.proofs.sending.copy_to.Given as goal

abbrev pub invariant-loop-party : goal.invariant-loop-party
invariant-loop-party l = l.out ≡ l.fn.out ++ copies l.bytes (take l.party-index l.to)
