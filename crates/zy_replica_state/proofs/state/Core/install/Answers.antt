use Rattle.std.proofs.Common.{◌≡◌, Some, sym, ap, ◌∙◌, subst}
use Rattle.std.specs.Prelude.{slice_get}
use Rattle.std.proofs.lemmas.Option.{same_Some}
use Rattle.zy_parts.specs.declared.reports.Told.{Told}
use Rattle.zy_evidence.specs.Reading.{stretch_of}
use Rattle.zy_exec.specs.Kept.{Kept}
use Rattle.zy_change.specs.declared.kept.Waiting.{Waiting}
use Rattle.zy_table.specs.Adopting.{common_with, gots_of}
use Rattle.zy_table.specs.Beginning.{active_by, with_history}
use Rattle.zy_table.specs.Fetching.{installed}
use Rattle.zy_table.specs.State.{State}
use Rattle.zy_replica_state.specs.Ready.{IsReady}
use Rattle.zy_replica_state.proofs.AdoptLemmas.{provided, taken_interval}
use Rattle.zy_replica_state.proofs.state.Core.install.Goals as goal

pub told_in-told-requires : goal.told_in-told-requires
told_in-told-requires g c =
    let s = c.args.self in
    let w = c.taken_waiting-parts.result.1 in
    provided s.views.counts s.views.interval w.cert w.chosen c.taken_waiting-parts.ensures.certified

pub taken_over-requires-clause-range : goal.taken_over-requires-clause-range
taken_over-requires-clause-range g c =
    let can = c.taken_waiting-parts.ensures.can c.told_in-told.result.now c.told_in-told.ensures in can.range

pub taken_over-requires-clause-clients : goal.taken_over-requires-clause-clients
taken_over-requires-clause-clients g c =
    let can = c.taken_waiting-parts.ensures.can c.told_in-told.result.now c.told_in-told.ensures in can.clients

pub anew_from-requires-clause-multiple : goal.anew_from-requires-clause-multiple
anew_from-requires-clause-multiple g c =
    let told = c.told_in-told.result.now in
    let place = c.taken_waiting-parts.result.1.chosen.place.0 in
    let can = c.taken_waiting-parts.ensures.can told c.told_in-told.ensures in
    rw (c.in_ok-parts.ensures.parts, c.with_exec.ensures, taken_interval (stretch_of told) place c.args.exec) can.multiple

pub anew_from-requires-clause-proof : goal.anew_from-requires-clause-proof
anew_from-requires-clause-proof g c =
    let can = c.taken_waiting-parts.ensures.can c.told_in-told.result.now c.told_in-told.ensures in can.proof

pub active_by-requires : goal.active_by-requires
active_by-requires g c =
    rw (c.in-Ok.ensures, c.in_ok-parts.ensures.parts, c.with_exec.ensures, c.taken_waiting-parts.ensures.parts) c.taken_waiting-parts.ensures.certified

pub together-requires : goal.together-requires
together-requires g c =
    let told = c.told_in-told.result.now in
    let can = c.taken_waiting-parts.ensures.can told c.told_in-told.ensures in
    rw (c.active_by.ensures, c.in-Ok.ensures, c.in_ok-parts.ensures.parts, c.with_exec.ensures, c.taken_waiting-parts.ensures.parts)
    (subst IsReady (sym can.begun) (can.ready c.taken_waiting-parts.ensures.ready.sends))

pub returns-clause-core : goal.returns-clause-core
returns-clause-core g c = λ w provider waits there.
    let R = g.M.Machine.rules in
    let s = c.args.self in
    let k = c.args.exec in
    let told = c.told_in-told.result.now in
    let kept = c.taken_waiting-parts.result.1 in
    let can = c.taken_waiting-parts.ensures.can told c.told_in-told.ensures in
    let same : kept ≡ w = same_Some kept w (sym c.taken_waiting-parts.ensures.waiting ∙ waits) in
    let begun : c.together.result ≡ active_by kept.cert kept.chosen (with_history R told kept.chosen.place (installed R k.base told s)) =
    rw (c.together.ensures, c.active_by.ensures, c.in-Ok.ensures, c.in_ok-parts.ensures.parts, c.with_exec.ensures, c.taken_waiting-parts.ensures.parts) can.begun in
    let here = subst (λ (x : Waiting). slice_get x.cert.new.stmt.changes x.chosen.provider ≡ Some provider) (sym same) there in
    begun
    ∙ ap (λ (t : Told). active_by kept.cert kept.chosen (with_history R t kept.chosen.place (installed R k.base t s))) (c.told_in-told.ensures provider here)
    ∙ ap (λ (x : Waiting). active_by x.cert x.chosen (with_history R provider.stmt.told x.chosen.place (installed R k.base provider.stmt.told s))) same

pub returns-clause-common : goal.returns-clause-common
returns-clause-common g c = λ w provider waits there.
    let R = g.M.Machine.rules in
    let s = c.args.self in
    let k = c.args.exec in
    let told = c.told_in-told.result.now in
    let kept = c.taken_waiting-parts.result.1 in
    let can = c.taken_waiting-parts.ensures.can told c.told_in-told.ensures in
    let same : kept ≡ w = same_Some kept w (sym c.taken_waiting-parts.ensures.waiting ∙ waits) in
    let here = subst (λ (x : Waiting). slice_get x.cert.new.stmt.changes x.chosen.provider ≡ Some provider) (sym same) there in
    c.in_ok-parts.ensures.common
    ∙ ap (λ (x : State g.row.M-State.Denot). common_with (stretch_of told) kept.chosen.place.0 x.kept) c.with_exec.ensures
    ∙ ap (λ (x : Kept g.row.M-State.Denot). common_with (stretch_of told) kept.chosen.place.0 x) (sym can.kept)
    ∙ ap (λ (t : Told). common_with (stretch_of t) kept.chosen.place.0 (installed R k.base t s).kept) (c.told_in-told.ensures provider here)
    ∙ ap (λ (x : Waiting). common_with (stretch_of provider.stmt.told) x.chosen.place.0 (installed R k.base provider.stmt.told s).kept) same

pub returns-clause-gained : goal.returns-clause-gained
returns-clause-gained g c = λ w provider waits there.
    let R = g.M.Machine.rules in
    let s = c.args.self in
    let k = c.args.exec in
    let told = c.told_in-told.result.now in
    let kept = c.taken_waiting-parts.result.1 in
    let can = c.taken_waiting-parts.ensures.can told c.told_in-told.ensures in
    let same : kept ≡ w = same_Some kept w (sym c.taken_waiting-parts.ensures.waiting ∙ waits) in
    let here = subst (λ (x : Waiting). slice_get x.cert.new.stmt.changes x.chosen.provider ≡ Some provider) (sym same) there in
    c.in_ok-parts.ensures.gained
    ∙ ap (λ (x : State g.row.M-State.Denot). gots_of R (stretch_of told) kept.chosen.place.0 x.kept) c.with_exec.ensures
    ∙ ap (λ (x : Kept g.row.M-State.Denot). gots_of R (stretch_of told) kept.chosen.place.0 x) (sym can.kept)
    ∙ ap (λ (t : Told). gots_of R (stretch_of t) kept.chosen.place.0 (installed R k.base t s).kept) (c.told_in-told.ensures provider here)
    ∙ ap (λ (x : Waiting). gots_of R (stretch_of provider.stmt.told) x.chosen.place.0 (installed R k.base provider.stmt.told s).kept) same
