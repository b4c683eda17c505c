use Rattle.zy_exec.proofs.HistoryLemmas.{stands_end, stands_head, stands_entry, stands_reply}
use Rattle.zy_exec.proofs.laws.places.Goals as goal

pub returns : goal.returns
returns g c =
    let R = g.M.Machine.rules in
    record { end = stands_end R; head = stands_head R; entry = stands_entry R; reply = stands_reply R }
