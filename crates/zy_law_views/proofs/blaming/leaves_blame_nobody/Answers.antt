use Rattle.zy_law_views.proofs.Adopting.{unblamed_leaving}
use Rattle.zy_law_views.proofs.blaming.leaves_blame_nobody.Goals as goal
use Rattle.zy_table.specs.Changes.{change}
use Rattle.zy_table.specs.Hates.{hate, on_change_timer, on_request_timer}
use Rattle.zy_table.specs.Misbehaviour.{pom, tell_all}
use Rattle.zy_law_views.proofs.HeardRows.{change_attempt, order_attempt, pom_attempt, request_attempt, vote_attempt}
use Rattle.zy_law_views.proofs.Leaves.{hate_attempt}

pub returns : goal.returns
returns g c =
    let R = g.M.Machine.rules in
    record {
      change = λ interval r texts w s history vote cause ready kept by_replica held.
          unblamed_leaving R interval texts w r s history ready kept (change R s vote) (vote_attempt R interval w r s history ready vote by_replica held) cause;
      hate = λ interval r texts w s history vote cause ready kept.
          unblamed_leaving R interval texts w r s history ready kept (hate R s vote) (hate_attempt R interval w r s history ready vote) cause;
      pom = λ interval r texts w s history first second cause ready kept.
          unblamed_leaving R interval texts w r s history ready kept (pom R s first second) (pom_attempt R interval w r s history ready first second) cause;
      order = λ interval r texts w s history order stored cause ready kept.
          unblamed_leaving R interval texts w r s history ready kept (tell_all R s order stored) (order_attempt R interval w r s history ready order stored) cause;
      request_timer = λ interval r texts w s history cause ready kept.
          unblamed_leaving R interval texts w r s history ready kept (on_request_timer R s s.views.mode) (request_attempt R interval w r s history ready s.views.mode) cause;
      change_timer = λ interval r texts w s history cause ready kept.
          unblamed_leaving R interval texts w r s history ready kept (on_change_timer R s s.views.mode) (change_attempt R interval w r s history ready s.views.mode) cause;
    }
