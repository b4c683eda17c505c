use Rattle.std.proofs.Common.{◌≡◌}
use Rattle.zy_base.specs.declared.step.Answer.TheVariants.{Refused}
use Rattle.zy_node.proofs.AskLemmas.{begin_refused}
use Rattle.zy_node.proofs.asker.Asker.begin.Goals as goal

pub returns-in-Refused-clause-begins : goal.returns-in-Refused-clause-begins
returns-in-Refused-clause-begins g c =
    let stepped = c.in_ok-client.field-0 in
    let is : stepped.answer ≡ Refused c.in-Refused.cause = cc in
    begin_refused c.args.client c.args.op stepped.answer c.in-Refused.cause stepped.client (g.L.Link.mail c.args.link.now) c.in_ok-client.ensures.stepped.answer c.in_ok-client.ensures.stepped.client is
