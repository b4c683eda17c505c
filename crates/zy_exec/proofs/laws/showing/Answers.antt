use Rattle.zy_exec.proofs.InstallLemmas.{IsLawful}
use Rattle.zy_exec.proofs.ShowingLemmas.{shows_spelled, spells_shown}
use Rattle.zy_exec.proofs.laws.showing.Goals as goal

pub returns : goal.returns
returns g c =
    let M = g.M.Machine in
    let met = g.met.M.Machine in
    let laws : IsLawful M.IsState M.rules =
    record { starts = met.starts; stays = met.stays; short_reply = met.short_reply; short_spelling = met.short_spelling; reads = met.reads; one_spelling = met.one_spelling } in
    record { spelled = shows_spelled M.IsState M.rules laws; shown = spells_shown M.IsState M.rules met.reads_state met.reads_spelled }
