use Rattle.std.proofs.Common.{◌≡◌}
use Rattle.zy_table.specs.Deeds.{others}
use Rattle.zy_replica.proofs.outcome.others_of.Given as goal

abbrev pub invariant-loop-id : goal.invariant-loop-id
invariant-loop-id l = l.all.items ≡ others l.me.0 l.id
