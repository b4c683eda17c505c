use Rattle.zy_calm_rows.proofs.ReplicaRows.{order_calm, order_row}
use Rattle.zy_calm_rows.proofs.replica.calm_orders.Goals as goal

pub returns : goal.returns
returns g c =
    let R = g.M.Machine.rules in
    record {
      row = λ p s o calm next is. order_row R p s calm o next is;
      calm = λ p s o calm next is. order_calm R p s calm o next is;
    }
