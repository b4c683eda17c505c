use Rattle.zy_law_views.proofs.Adopting.{unblamed}
use Rattle.zy_law_views.proofs.BeginningRows.{cert_attempt, confirmation_attempt, new_attempt}
use Rattle.zy_law_views.proofs.blaming.beginnings_blame_nobody.Goals as goal
use Rattle.zy_table.specs.Confirming.{confirmation, new_view, view_certificate}

pub returns : goal.returns
returns g c =
    let R = g.M.Machine.rules in
    record {
      new_view = λ interval r texts w s history new cause ready kept held.
          unblamed R interval texts w r s history ready kept (new_view R s new) (new_attempt R interval texts w r s history ready kept new held) cause;
      confirmation = λ interval r texts w s history vote cause ready kept by_replica held.
          unblamed R interval texts w r s history ready kept (confirmation R s vote) (confirmation_attempt R interval texts w r s history ready kept vote by_replica held) cause;
      certificate = λ interval r texts w s history cert cause ready kept changes begans.
          unblamed R interval texts w r s history ready kept (view_certificate R s cert) (cert_attempt R interval texts w r s history ready kept cert changes begans) cause;
    }
