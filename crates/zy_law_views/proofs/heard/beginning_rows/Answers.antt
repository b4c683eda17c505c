use Rattle.zy_law_views.proofs.BeginningRows.{cert_lawful, confirmation_lawful, new_lawful}
use Rattle.zy_law_views.proofs.heard.beginning_rows.Goals as goal

pub returns : goal.returns
returns g c =
    let R = g.M.Machine.rules in
    record {
      new_view = λ interval r texts w s history new ready kept held. new_lawful R interval texts w r s history ready kept new held;
      confirmation = λ interval r texts w s history vote ready kept by_replica held. confirmation_lawful R interval texts w r s history ready kept vote by_replica held;
      certificate = λ interval r texts w s history cert ready kept changes begans. cert_lawful R interval texts w r s history ready kept cert changes begans;
    }
