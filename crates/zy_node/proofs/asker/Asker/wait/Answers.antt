use Rattle.std.proofs.Common.{◌∙◌, sym}
use Rattle.zy_node.proofs.AskLemmas.{waits_done, waits_spent}
use Rattle.zy_node.proofs.asker.Asker.wait.Goals as goal

pub returns-then-is_done-clause-waits : goal.returns-then-is_done-clause-waits
returns-then-is_done-clause-waits g c =
    waits_done c.args.self c.args.turns c.in_ok-asker.asker c.into_client-client.result _ _ c.in_ok-asker.ensures.run c.into_client-client.ensures (sym c.is_done.ensures ∙ c.if-is_done.true)

pub returns-else-is_done-clause-waits : goal.returns-else-is_done-clause-waits
returns-else-is_done-clause-waits g c =
    waits_spent c.args.self c.args.turns c.in_ok-asker.asker c.into_client-client.result _ _ c.in_ok-asker.ensures.run c.into_client-client.ensures (sym c.is_done.ensures ∙ c.if-is_done.false)
