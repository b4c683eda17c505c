use Rattle.zy_law_views.proofs.Leaves.{hate_lawful, leave_lawful}
use Rattle.zy_law_views.proofs.rows.leaving_rows.Goals as goal

pub returns : goal.returns
returns g c =
    let R = g.M.Machine.rules in
    record {
      leave = λ interval r w s history view ready above. leave_lawful R interval w r s history ready view above;
      hate = λ interval r w s history vote ready. hate_lawful R interval w r s history ready vote;
    }
