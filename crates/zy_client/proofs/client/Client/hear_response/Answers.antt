use Rattle.std.proofs.Common.{◌∙◌, sym}
use Rattle.zy_client.proofs.client.Client.hear_response.Goals as goal

pub returns-then-is_by_primary : goal.returns-then-is_by_primary
returns-then-is_by_primary c = rw (c.in-Replica.is, sym c.is_by_primary.ensures ∙ c.if-is_by_primary.true) c.responds.ensures
