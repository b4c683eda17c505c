use Rattle.zy_law_views.proofs.HeardRows.{change_lawful, change_timer_lawful, order_lawful, pom_lawful, request_timer_lawful}
use Rattle.zy_law_views.proofs.rows.heard_rows.Goals as goal

pub returns : goal.returns
returns g c =
    let R = g.M.Machine.rules in
    record {
      change = λ interval r w s history vote ready by_replica held. change_lawful R interval w r s history ready vote by_replica held;
      pom = λ interval r w s history first second ready. pom_lawful R interval w r s history ready first second;
      order = λ interval r w s history order kept ready. order_lawful R interval w r s history ready order kept;
      request_timer = λ interval r w s history ready. request_timer_lawful R interval w r s history ready;
      change_timer = λ interval r w s history ready. change_timer_lawful R interval w r s history ready;
    }
