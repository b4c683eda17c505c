use Rattle.std.proofs.Common.{ap}
use Rattle.zy_guard.specs.Bytes.{guard_reply_bytes}
use Rattle.zy_guard.proofs.IsolationLaws.{own, others, denied_first, first_denied}
use Rattle.zy_guard.proofs.laws.isolation.Goals as goal

pub returns-clause-own : goal.returns-clause-own
returns-clause-own c = λ state other client op is other_is same. ap guard_reply_bytes (own client.0 op state other is other_is same)

pub returns-clause-others : goal.returns-clause-others
returns-clause-others c = λ state client other op. others client.0 other.0 op state

pub returns-clause-denied : goal.returns-clause-denied
returns-clause-denied c = λ state client op denial. (denied_first client.0 op state denial, first_denied client.0 op state denial)
