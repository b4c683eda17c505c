use Rattle.zy_calm_rows.proofs.ClientRows.{local_completes, local_counted}
use Rattle.zy_calm_rows.proofs.client.calm_locals.Goals as goal

pub returns : goal.returns
returns c = record { counts = local_counted; completes = local_completes }
