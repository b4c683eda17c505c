use Rattle.std.proofs.Common.{◌≡◌, replicate, None}
use Rattle.zy_client.proofs.client.no_responses.Given as goal

abbrev pub invariant-loop : goal.invariant-loop
invariant-loop l = l.responses.items ≡ replicate l.counter None
