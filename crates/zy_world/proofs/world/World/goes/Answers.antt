use Rattle.std.proofs.lemmas.Result.{err_from_is_err_and}
use Rattle.zy_world_law.specs.Events.{happens}
use Rattle.zy_world.proofs.world.World.goes.Goals as goal

pub returns-in-Ask-clause-goes : goal.returns-in-Ask-clause-goes
unfolding happens
returns-in-Ask-clause-goes g c w s = rw c.in-Ask.is (c.client_asks.ensures.goes w s)

pub returns-in-Ask-clause-broken : goal.returns-in-Ask-clause-broken
unfolding happens
returns-in-Ask-clause-broken g c w s = rw c.in-Ask.is (c.client_asks.ensures.broken w s)

pub returns-in-Deliver-clause-goes : goal.returns-in-Deliver-clause-goes
unfolding happens
returns-in-Deliver-clause-goes g c w s = rw c.in-Deliver.is (c.deliver.ensures.goes w s)

pub returns-in-Deliver-clause-broken : goal.returns-in-Deliver-clause-broken
unfolding happens
returns-in-Deliver-clause-broken g c w s = rw c.in-Deliver.is (c.deliver.ensures.broken w s)

pub returns-in-Timer-clause-goes : goal.returns-in-Timer-clause-goes
unfolding happens
returns-in-Timer-clause-goes g c w s = rw c.in-Timer.is (c.runs_out.ensures.goes w s)

pub returns-in-Timer-clause-broken : goal.returns-in-Timer-clause-broken
unfolding happens
returns-in-Timer-clause-broken g c w s = rw c.in-Timer.is (c.runs_out.ensures.broken w s)

pub returns-in_ok-lie_order-in-Order-clause-goes : goal.returns-in_ok-lie_order-in-Order-clause-goes
unfolding happens
returns-in_ok-lie_order-in-Order-clause-goes g c w s = rw (c.in-Order.is, c.answered.ensures.world, c.answered.ensures.note) (c.in_ok-lie_order-in-Order.ensures w s)

pub returns-in_ok-lie_spec-in-Spec-clause-goes : goal.returns-in_ok-lie_spec-in-Spec-clause-goes
unfolding happens
returns-in_ok-lie_spec-in-Spec-clause-goes g c w s = rw (c.in-Spec.is, c.answered-in-Spec.ensures.world, c.answered-in-Spec.ensures.note) (c.in_ok-lie_spec-in-Spec.ensures w s)

pub returns-in_ok-lie_statement-in-Statement-clause-goes : goal.returns-in_ok-lie_statement-in-Statement-clause-goes
unfolding happens
returns-in_ok-lie_statement-in-Statement-clause-goes g c w s = rw (c.in-Statement.is, c.answered-in-Statement.ensures.world, c.answered-in-Statement.ensures.note) (c.in_ok-lie_statement-in-Statement.ensures w s)

pub returns-in_ok-raw-in-Raw-clause-goes : goal.returns-in_ok-raw-in-Raw-clause-goes
unfolding happens
returns-in_ok-raw-in-Raw-clause-goes g c w s = rw (c.in-Raw.is, c.answered-in-Raw.ensures.world, c.answered-in-Raw.ensures.note) (c.in_ok-raw-in-Raw.ensures w s)

pub returns-in_ok-forge_statement-in-Forge-clause-goes : goal.returns-in_ok-forge_statement-in-Forge-clause-goes
unfolding happens
returns-in_ok-forge_statement-in-Forge-clause-goes g c w s = rw (c.in-Forge.is, c.answered-in-Forge.ensures.world, c.answered-in-Forge.ensures.note) (c.in_ok-forge_statement-in-Forge.ensures w s)

pub returns-in_err-lie_order-in-Order-clause-broken : goal.returns-in_err-lie_order-in-Order-clause-broken
returns-in_err-lie_order-in-Order-clause-broken g c w s =
    let p = err_from_is_err_and c.from_residual.result c.from_residual.ensures.1 in
    rw (p.1, p.2) tt

pub returns-in_err-lie_spec-in-Spec-clause-broken : goal.returns-in_err-lie_spec-in-Spec-clause-broken
returns-in_err-lie_spec-in-Spec-clause-broken g c w s =
    let p = err_from_is_err_and c.from_residual-in_err-lie_spec-in-Spec.result c.from_residual-in_err-lie_spec-in-Spec.ensures.1 in
    rw (p.1, p.2) tt

pub returns-in_err-lie_statement-in-Statement-clause-broken : goal.returns-in_err-lie_statement-in-Statement-clause-broken
returns-in_err-lie_statement-in-Statement-clause-broken g c w s =
    let p = err_from_is_err_and c.from_residual-in_err-lie_statement-in-Statement.result c.from_residual-in_err-lie_statement-in-Statement.ensures.1 in
    rw (p.1, p.2) tt

pub returns-in_err-raw-in-Raw-clause-broken : goal.returns-in_err-raw-in-Raw-clause-broken
returns-in_err-raw-in-Raw-clause-broken g c w s =
    let p = err_from_is_err_and c.from_residual-in_err-raw-in-Raw.result c.from_residual-in_err-raw-in-Raw.ensures.1 in
    rw (p.1, p.2) tt

pub returns-in_err-forge_statement-in-Forge-clause-broken : goal.returns-in_err-forge_statement-in-Forge-clause-broken
returns-in_err-forge_statement-in-Forge-clause-broken g c w s =
    let p = err_from_is_err_and c.from_residual-in_err-forge_statement-in-Forge.result c.from_residual-in_err-forge_statement-in-Forge.ensures.1 in
    rw (p.1, p.2) tt
