use Rattle.std.proofs.Common.{◌≡◌, ◌∙◌, ap, arith}
use Rattle.zy_exec.specs.Kept.{Kept}
use Rattle.zy_replica_views.proofs.judging.signs_taken.Goals as goal

pub checkpoints-requires : goal.checkpoints-requires
checkpoints-requires g c =
    let least = c.view-view.ensures.ready.least in
    let same : c.interval.result ≡ c.args.core.now.kept.interval = c.interval.ensures ∙ ap (λ (k : Kept g.row.M-State.Denot). k.interval) c.exec.ensures in
    omega (arith, least, same)
