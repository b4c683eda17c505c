use Rattle.std.proofs.Common.{◌≡◌}
use Rattle.zy_table.specs.ClientState.{all_replicas}
use Rattle.zy_client.proofs.step.all_replicas_of.Given as goal

abbrev pub invariant-loop-id : goal.invariant-loop-id
invariant-loop-id l = l.all.items ≡ all_replicas l.id
