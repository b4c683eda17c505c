use Rattle.zy_law_views.proofs.Backups.{hole_lawful, request_lawful}
use Rattle.zy_law_views.proofs.resting.resting_rows.Goals as goal

pub returns : goal.returns
returns g c =
    let R = g.M.Machine.rules in
    record {
      request = λ interval r texts w s history ask ready kept backup. request_lawful R interval texts w r s history ready kept ask backup;
      hole = λ interval r texts w s history hole ready kept. hole_lawful R interval texts w r s history ready kept hole;
    }
