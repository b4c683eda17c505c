use Rattle.zy_exec.proofs.SettleLemmas.{settled_end, settled_now, settled_place, stands_settled, stands_snapshot}
use Rattle.zy_exec.proofs.laws.settling.Goals as goal

pub returns : goal.returns
returns g c =
    let R = g.M.Machine.rules in
    record { end = settled_end R; now = settled_now R; base = settled_place R; stands = stands_settled R; snapshot = stands_snapshot R }
