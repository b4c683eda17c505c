use Rattle.zy_table.proofs.BeginningLemmas.{begins_at_stable, installs_at_stable}
use Rattle.zy_table.proofs.laws.one_place.Goals as goal

pub returns : goal.returns
returns g c =
    let R = g.M.Machine.rules in
    record { installed = λ s point told. installs_at_stable R point told s; begun = begins_at_stable R }
