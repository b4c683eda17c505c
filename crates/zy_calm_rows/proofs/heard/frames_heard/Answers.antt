use Rattle.zy_calm_rows.proofs.ReadAgain.{client_heard, heard}
use Rattle.zy_calm_rows.proofs.heard.frames_heard.Goals as goal

pub returns : goal.returns
returns g c = record { replica = λ s f fits accepted role. heard g.M.Machine.rules s f fits accepted role; client = client_heard }
