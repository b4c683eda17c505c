use Rattle.std.proofs.Common.{IfOk, subst}
use Rattle.zy_table.proofs.ClientRefusals.{ask_stays}
use Rattle.zy_table.specs.ClientRows.{ask}
use Rattle.zy_table.specs.ClientState.{ClientOutcome}
use Rattle.zy_client.proofs.RefusedLemmas.{refused_unchanged}
use Rattle.zy_client.specs.Stepped.{IsStepped}
use Rattle.zy_client.proofs.client.Client.ask.Goals as goal

pub returns-clause-refused : goal.returns-clause-refused
returns-clause-refused c =
    refused_unchanged c.args.self (ask c.args.self c.args.op) (ask_stays c.args.self c.args.op) c.finish.result
    (subst (λ (o : ClientOutcome). IfOk c.finish.result (IsStepped o)) c.in_ok-asks.ensures c.finish.ensures)
