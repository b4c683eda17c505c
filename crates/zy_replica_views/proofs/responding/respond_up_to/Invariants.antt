use Rattle.std.proofs.Common.{◌-◌}
use Rattle.zy_table.specs.Beginning.{respond_up_to}
use Rattle.zy_replica_views.proofs.RespondLemmas.{IsLeft}
use Rattle.zy_replica_views.proofs.responding.respond_up_to.Given as goal

abbrev pub invariant-loop-at : goal.invariant-loop-at
invariant-loop-at g l = IsLeft g.M.Machine.rules l.interval l.at (l.at-end - l.at) l.progress (respond_up_to g.M.Machine.rules l.fn.place.0 l.fn.progress)
