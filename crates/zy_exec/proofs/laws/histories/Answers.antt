use Rattle.std.proofs.Common.{arith}
use Rattle.zy_exec.specs.Replay.{origin}
use Rattle.zy_exec.proofs.ReplayLemmas.{place-along, head-along}
use Rattle.zy_exec.proofs.HistoryLemmas.{stands_at_origin, stands_leads, stands_run, stands_back}
use Rattle.zy_exec.proofs.laws.histories.Goals as goal

pub returns : goal.returns
returns g c =
    let R = g.M.Machine.rules in
    record {
      place = λ history. let at = place-along R (origin R) history in omega arith;
      head = head-along R (origin R);
      start = stands_at_origin R;
      leads = stands_leads R;
      run = stands_run R;
      rollback = stands_back R;
    }
