use Rattle.std.proofs.Common.{IfOk, subst}
use Rattle.zy_table.proofs.ClientRefusals.{step_stays}
use Rattle.zy_table.specs.ClientRows.{client_step}
use Rattle.zy_table.specs.ClientState.{ClientOutcome}
use Rattle.zy_client.proofs.RefusedLemmas.{refused_unchanged}
use Rattle.zy_client.specs.Stepped.{IsStepped}
use Rattle.zy_client.proofs.client.Client.step.Goals as goal

pub returns-clause-refused : goal.returns-clause-refused
returns-clause-refused c =
    refused_unchanged c.args.self (client_step c.args.self c.args.event) (step_stays c.args.self c.args.event) c.finish.result
    (subst (λ (o : ClientOutcome). IfOk c.finish.result (IsStepped o)) c.in_ok-moves.ensures c.finish.ensures)
