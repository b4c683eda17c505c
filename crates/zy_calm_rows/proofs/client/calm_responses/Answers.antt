use Rattle.zy_calm_rows.proofs.ClientRows.{awaits_more, response_completes, response_kept}
use Rattle.zy_calm_rows.proofs.client.calm_responses.Goals as goal

pub returns : goal.returns
returns c = record { keeps = response_kept; completes = response_completes; awaits = awaits_more }
