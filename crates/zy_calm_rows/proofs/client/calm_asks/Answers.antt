use Rattle.zy_calm_rows.proofs.ClientRows.{ask_row}
use Rattle.zy_calm_rows.proofs.client.calm_asks.Goals as goal

pub returns : goal.returns
returns c = ask_row
