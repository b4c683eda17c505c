use Rattle.zy_exec.proofs.SettleLemmas.{stands_settled}
use Rattle.zy_law.specs.Said.{Moment}
use Rattle.zy_law_views.proofs.AdoptedLists.{chosen_known}
use Rattle.zy_law_views.proofs.RunningOn.{adopted_by_running}
use Rattle.zy_law_views.proofs.begin.running_on.Goals as goal

pub returns : goal.returns
returns g c =
    let R = g.M.Machine.rules in
    record {
      adopted = λ interval r texts w c history n m p place head lawful correct matches world tied is both low.
          let known = chosen_known w lawful matches.next interval n m p is in
          let own : Moment w = record { by = r; correct = correct; number = tied.standing.number; stand = record { view = c.views.last_view.0; history = history }; stood = tied.standing.stood } in
          (_, adopted_by_running w lawful matches.next interval n m p is R texts matches world own c.kept tied.standing.stands place head both low known.moment known.passes);
      settled = λ interval texts w m k list place is above below. record { list = is.list; read = is.read; stands = stands_settled R k list place above below is.stands; kept = is.kept };
    }
