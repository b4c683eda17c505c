use Rattle.std.proofs.Common.{◌≡◌, take}
use Rattle.zy_check.specs.Votes.{only}
use Rattle.zy_replica_state.proofs.checkpoints.first_equal.Given as goal

abbrev pub invariant-loop-signed : goal.invariant-loop-signed
invariant-loop-signed g l = l.first.items ≡ take l.count (only g.S.PartialEq.eq l.stmt (take l.signed-index l.list))
