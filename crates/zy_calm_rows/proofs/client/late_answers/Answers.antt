use Rattle.zy_calm_rows.proofs.ClientRows.{late_local, late_response}
use Rattle.zy_calm_rows.proofs.client.late_answers.Goals as goal

pub returns : goal.returns
returns c = record { response = late_response; local = late_local }
