use Rattle.zy_exec.proofs.ReplayLemmas.{place-along, along-append}
use Rattle.zy_exec.proofs.laws.points.Goals as goal

pub returns : goal.returns
returns g c =
    let R = g.M.Machine.rules in
    record { place = λ k. place-along R k.base k.entries; run = λ k e. along-append R k.base k.entries e }
