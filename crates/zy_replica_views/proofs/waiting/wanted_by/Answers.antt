use Rattle.std.proofs.Common.{◌≡◌, ◌<◌, ap, arith}
use Rattle.zy_change.proofs.AcceptedLemmas.{accepted_provider}
use Rattle.zy_replica_state.proofs.AdoptLemmas.{provided}
use Rattle.zy_replica_views.proofs.AdoptingLemmas.{told_in_range}
use Rattle.zy_replica_views.proofs.waiting.wanted_by.Goals as goal

pub told_in-told-requires : goal.told_in-told-requires
told_in-told-requires g c =
    let v = c.args.core.now.views in
    provided v.counts v.interval c.args.cert.now c.args.chosen.now c.requires.certified

pub returns-clause-range : goal.returns-clause-range
returns-clause-range g c =
    let v = c.args.core.now.views in
    let (p, there, head) = accepted_provider v.counts v.interval (record { new = c.args.cert.now.new; chosen = c.args.chosen.now }) c.requires.certified.accepted in
    let told = c.told_in-told.result.now in
    let range = told_in_range v.counts v.interval c.args.cert.now c.args.chosen.now c.requires.certified told c.told_in-told.ensures in
    let same : told.stable_place.0 ≡ p.stmt.told.stable_place.0 = ap (λ t. t.stable_place.0) (c.told_in-told.ensures p there) in
    let place : c.wanted_of.result.place.0 ≡ told.stable_place.0 = ap (λ f. f.place.0) c.wanted_of.ensures in
    let some : 0 < p.stmt.told.stable_place.0 = c.requires.ready.proven p there in
    let least = range.stable_place.1 in
    (omega (arith, some, same, place), omega (arith, least, place))
