use Rattle.std.proofs.Common.{◌≡◌, drop}
use Rattle.zy_client.proofs.EvidenceLemmas.{against_in}
use Rattle.zy_client.proofs.client.Client.contradicted.Given as goal

-- it is the first of the slots that are left
abbrev pub invariant-loop-slot : goal.invariant-loop-slot
invariant-loop-slot l = against_in l.order l.self.responses ≡ against_in l.order (drop l.slot-index l.self.responses)
