use Rattle.zy_law_views.proofs.Adopting.{finishes_leaving}
use Rattle.zy_law_views.proofs.leaving.finished_rows.Goals as goal
use Rattle.zy_table.specs.Changes.{change}
use Rattle.zy_table.specs.Hates.{hate}
use Rattle.zy_table.specs.Misbehaviour.{pom, tell_all}
use Rattle.zy_law_views.proofs.HeardRows.{order_attempt, pom_attempt, vote_attempt}
use Rattle.zy_law_views.proofs.Leaves.{hate_attempt}

pub returns : goal.returns
returns g c =
    let R = g.M.Machine.rules in
    record {
      change = λ interval r texts w s history vote ready kept by_replica held.
          finishes_leaving R interval texts w r s history ready kept (change R s vote) (vote_attempt R interval w r s history ready vote by_replica held);
      hate = λ interval r texts w s history vote ready kept. finishes_leaving R interval texts w r s history ready kept (hate R s vote) (hate_attempt R interval w r s history ready vote);
      pom = λ interval r texts w s history first second ready kept.
          finishes_leaving R interval texts w r s history ready kept (pom R s first second) (pom_attempt R interval w r s history ready first second);
      order = λ interval r texts w s history order stored ready kept.
          finishes_leaving R interval texts w r s history ready kept (tell_all R s order stored) (order_attempt R interval w r s history ready order stored);
    }
