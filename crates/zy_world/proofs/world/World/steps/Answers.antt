use Rattle.zy_world.specs.Answered.{steps}
use Rattle.zy_world.proofs.world.World.steps.Goals as goal

pub returns-in-Replica-clause-goes : goal.returns-in-Replica-clause-goes
unfolding steps
returns-in-Replica-clause-goes g c w s = rw c.in-Replica.is (c.replica_steps.ensures.goes w s)

pub returns-in-Replica-clause-broken : goal.returns-in-Replica-clause-broken
unfolding steps
returns-in-Replica-clause-broken g c w s = rw c.in-Replica.is (c.replica_steps.ensures.broken w s)

pub returns-in-Client-clause-goes : goal.returns-in-Client-clause-goes
unfolding steps
returns-in-Client-clause-goes g c w s = rw c.in-Client.is (c.client_steps.ensures.goes w (λ xs. xs) s)

pub returns-in-Client-clause-broken : goal.returns-in-Client-clause-broken
unfolding steps
returns-in-Client-clause-broken g c w s = rw c.in-Client.is (c.client_steps.ensures.broken w (λ xs. xs) s)
