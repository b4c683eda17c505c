use Rattle.std.proofs.Common.{◌≡◌, ap, arith}
use Rattle.zy_exec.specs.Kept.{Kept}
use Rattle.zy_exec.proofs.ShotLemmas.{kept_new}
use Rattle.zy_exec.proofs.exec.Exec.start.Goals as goal

pub invariant_of-result : goal.invariant_of-result
invariant_of-result g c =
    let M = g.M.Machine in
    let track = c.in_ok-track.track in
    let interval : track.interval ≡ c.args.k = ap (λ (k : Kept _). k.interval) c.in_ok-track.ensures in
    kept_new M.rules track c.in_ok-shot.field-0 c.in_ok-shots.shots.items (ap (λ (k : Kept _). k.entries) c.in_ok-track.ensures)
    (omega (arith, interval, c.requires.least)) (omega (arith, interval, c.requires.most)) c.in_ok-shot.ensures.shot c.in_ok-shot.ensures.short c.in_ok-shots.ensures
