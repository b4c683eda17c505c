use Rattle.zy_exec.proofs.InstallLemmas.{IsLawful, one_installed, shown_along, installed_stands}
use Rattle.zy_exec.proofs.laws.installing.Goals as goal

pub returns : goal.returns
returns g c =
    let M = g.M.Machine in
    let met = g.met.M.Machine in
    let laws : IsLawful M.IsState M.rules =
    record { starts = met.starts; stays = met.stays; short_reply = met.short_reply; short_spelling = met.short_spelling; reads = met.reads; one_spelling = met.one_spelling } in
    record { one = one_installed M.IsState M.rules laws; shown = shown_along M.IsState M.rules laws; stands = installed_stands M.IsState M.rules laws }
