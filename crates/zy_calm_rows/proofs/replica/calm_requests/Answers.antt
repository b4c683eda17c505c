use Rattle.zy_calm_rows.proofs.ReplicaRows.{request_calm, request_row}
use Rattle.zy_calm_rows.proofs.replica.calm_requests.Goals as goal

pub returns : goal.returns
returns g c =
    let R = g.M.Machine.rules in
    record {
      row = λ p s ask calm next. request_row R p s calm ask next;
      calm = λ p s ask calm next. request_calm R p s calm ask next;
    }
