use Rattle.std.proofs.Common.{◌∙◌, ap}
use Rattle.zy_change.specs.Views.{Views}
use Rattle.zy_replica_state.proofs.AdoptLemmas.{provided}
use Rattle.zy_replica_views.proofs.StateLemmas.{heard_cause}
use Rattle.zy_replica_views.proofs.fetching.state_cause.Goals as goal

pub told_in-requires : goal.told_in-requires
told_in-requires g c =
    let w = c.in-Some.waiting.now in
    provided c.views.result.now.counts c.views.result.now.interval w.cert w.chosen c.in-Some.ensures.certified

pub returns-in-Some : goal.returns-in-Some
returns-in-Some g c =
    let w = c.in-Some.waiting.now in
    c.told_cause.ensures
    ∙ heard_cause c.views.result.now.counts c.views.result.now.interval c.args.frame.now c.args.core.now.views.waiting w c.told_in.result.now
    (c.in-Some.ensures.waiting ∙ ap (λ (v : Views). v.waiting) c.views.ensures.views) c.in-Some.ensures.certified c.told_in.ensures
